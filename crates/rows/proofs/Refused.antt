-- Refusal 8 is told of just the first place whose walk comes back. Assumes nothing.
use Rattle.std.proofs.Common.{◌≡◌, ℕ, zero, suc, ◌+◌, ◌<◌, ◌≤◌, Bool, true, false, ltb, leb, ◌⊎◌, List, [], ◌∷◌, length, Some, None, Option, sym, refl, ap, ◌∙◌, subst, inl, inr, arith}
use Rattle.action.proofs.Basics.{le_split}
use Rattle.catalogue.specs.Catalogue.{most_moves}
use Rattle.rows.specs.declared.row.Place.{Place}
use Rattle.rows.specs.declared.row.ModuleRow.{ModuleRow}
use Rattle.rows.specs.declared.fault.RowsFault.{RowsFault}
use Rattle.rows.specs.declared.fault.RowsFault.TheVariants.{ManyModules, ManyPlaces, BeyondRows, NoStart, Outside, NoAction, Unguarded, Deep, ManyMoves}
use Rattle.rows.specs.Places.{ages, row, guarded, depth_of, moves_of}
use Rattle.rows.specs.Opening.{book_modules, book_places, places_of, places_in, inside, by_action, first_failing, unless, unless_at, try_each, places_fault, module_fault, fault_from, fault}
use Rattle.rows.specs.Walks.{TellsOfWalks}
use Rattle.rows.proofs.Accepted.{none_fails, each_accepted}
use Rattle.rows.proofs.Walks.{guarded_ends, unguarded_returns}

-- the first number that fails: it fails, and those before it pass
pub record FirstFailing (f : ℕ → Bool) (n k i : ℕ) : Type 0 where
  pub fails : f i ≡ false
  pub reached : k ≤ i
  pub in_range : i < k + n
  pub before : (j : ℕ) → k ≤ j → j < i → f j ≡ true

some_eq : {A : Type 0} (x y : A) → ◌≡◌ {A = Option A} (Some x) (Some y) → x ≡ y
some_eq x y e = cc

first_fails : (f : ℕ → Bool) (n k i : ℕ) → first_failing f n k ≡ Some i → FirstFailing f n k i
first_fails f zero k i e = let z : ◌≡◌ {A = ℕ} 0 1 = cc in absurd (omega arith)
first_fails f (suc n) k i e = go (f k) refl e (first_fails f n (suc k) i)
  where
    go : (b : Bool) → f k ≡ b → ◌≡◌ {A = Option ℕ} (elim b [ true ↦ first_failing f n (suc k) | false ↦ Some k ]) (Some i) → (first_failing f n (suc k) ≡ Some i → FirstFailing f n (suc k) i) → FirstFailing f (suc n) k i
    go false q h rec = let z = some_eq k i h in record { fails = subst (λ x. f x ≡ false) z q; reached = omega arith; in_range = omega arith; before = λ j l u. absurd (omega arith) }
    go true q h rec =
        let r = rec h in
        record { fails = r.fails; reached = omega (arith, r.reached); in_range = omega (arith, r.in_range); before = λ j l u. later r j (split j l) u }
      where
        split : (j : ℕ) → k ≤ j → (k ≡ j) ⊎ (suc k ≤ j)
        split j l = le_split k j l

        later : FirstFailing f n (suc k) i → (j : ℕ) → (k ≡ j) ⊎ (suc k ≤ j) → j < i → f j ≡ true
        later r j (inl z) u = subst (λ x. f x ≡ true) z q
        later r j (inr l) u = r.before j l u

-- ── what a verdict of 8 says of the trials ──

module _ (m i : ℕ) where
  abbrev eight : Option RowsFault
  eight = Some (Unguarded m i)

  -- another fault is not it
  passed : (b : Bool) (e : RowsFault) (rest : Option RowsFault) → (e ≡ Unguarded m i → ⊥) → unless b e rest ≡ eight → rest ≡ eight
  passed true e rest ne h = h
  passed false e rest ne h = absurd (ne (some_eq e (Unguarded m i) h))

  passed_at : (o : Option ℕ) (e : ℕ → RowsFault) (rest : Option RowsFault) → ((j : ℕ) → e j ≡ Unguarded m i → ⊥) → unless_at o e rest ≡ eight → (o ≡ None) × (rest ≡ eight)
  passed_at None e rest ne h = (refl, h)
  passed_at (Some j) e rest ne h = absurd (ne j (some_eq (e j) (Unguarded m i) h))

  -- the places of the module
  pub record AtPlace (ps : List Place) (k : ℕ) : Type 0 where
    pub same : k ≡ m
    pub all_inside : (j : ℕ) → j < length ps → inside (length ps) (row ps j) ≡ true
    pub here : FirstFailing (guarded ps) (length ps) 0 i

  not_outside : (k j : ℕ) → Outside k j ≡ Unguarded m i → ⊥
  not_outside k j q = let z : ◌≡◌ {A = ℕ} 0 1 = cc in omega arith

  not_action : (k j : ℕ) → NoAction k j ≡ Unguarded m i → ⊥
  not_action k j q = let z : ◌≡◌ {A = ℕ} 0 1 = cc in omega arith

  not_deep : (k j : ℕ) → Deep k j ≡ Unguarded m i → ⊥
  not_deep k j q = let z : ◌≡◌ {A = ℕ} 0 1 = cc in omega arith

  not_many : (k j : ℕ) → ManyMoves k j ≡ Unguarded m i → ⊥
  not_many k j q = let z : ◌≡◌ {A = ℕ} 0 1 = cc in omega arith

  at_place : (ps : List Place) (k : ℕ) → places_fault ps k ≡ eight → AtPlace ps k
  unfolding places_fault
  at_place ps k h =
      let a = passed_at (first_failing (λ j. inside (length ps) (row ps j)) (length ps) 0) (λ j. Outside k j) _ (not_outside k) h in
      let b = passed_at (first_failing (λ j. by_action (row ps j)) (length ps) 0) (λ j. NoAction k j) _ (not_action k) a.1 in
      go a.0 (first_failing (guarded ps) (length ps) 0) refl b.1
    where
      never : None ≡ eight → ⊥
      never q = let z : ◌≡◌ {A = ℕ} 0 1 = cc in omega arith

      go : first_failing (λ j. inside (length ps) (row ps j)) (length ps) 0 ≡ None → (o : Option ℕ) → first_failing (guarded ps) (length ps) 0 ≡ o → unless_at o (λ j. Unguarded k j) (try_each ps k (λ j. ltb (depth_of ps j) ages) (λ j. Deep k j) (try_each ps k (λ j. leb (length (moves_of ps j)) most_moves) (λ j. ManyMoves k j) None)) ≡ eight → AtPlace ps k
      go all None q r =
          let c = passed_at (first_failing (λ j. ltb (depth_of ps j) ages) (length ps) 0) (λ j. Deep k j) _ (not_deep k) r in
          let d = passed_at (first_failing (λ j. leb (length (moves_of ps j)) most_moves) (length ps) 0) (λ j. ManyMoves k j) None (not_many k) c.1 in
          absurd (never d.1)
      go all (Some j) q r =
          let e = some_eq (Unguarded k j) (Unguarded m i) r in
          let x : k ≡ m = cc in
          let y : j ≡ i = cc in
          record {
            same = x;
            all_inside = λ n l. none_fails (λ p. inside (length ps) (row ps p)) (length ps) 0 all n (omega arith) (omega arith);
            here = first_fails (guarded ps) (length ps) 0 i (q ∙ ap (λ n. Some n) y);
          }

  in_module : (rows : List Place) (k : ℕ) (r : ModuleRow) → module_fault rows k r ≡ eight → AtPlace (places_of rows r) k
  unfolding module_fault
  in_module rows k r h =
      at_place (places_of rows r) k
      (passed (ltb r.start r.places) (NoStart k) _ (λ q. let z : ◌≡◌ {A = ℕ} 0 1 = cc in omega arith)
      (passed (leb (r.first + r.places) (length rows)) (BeyondRows k) _ (λ q. let z : ◌≡◌ {A = ℕ} 0 1 = cc in omega arith)
      (passed (leb r.places book_places) (ManyPlaces k) _ (λ q. let z : ◌≡◌ {A = ℕ} 0 1 = cc in omega arith)
      (passed (ltb k book_modules) (ManyModules k) _ (λ q. let z : ◌≡◌ {A = ℕ} 0 1 = cc in omega arith) h))))

  -- one of the modules has it
  in_rows : (rows : List Place) (n : ℕ) (ms : List ModuleRow) → fault_from rows n ms ≡ eight → (k : ℕ) × AtPlace (places_in rows ms k) (n + k)
  in_rows rows n [] h = let z : ◌≡◌ {A = ℕ} 0 1 = cc in absurd (omega arith)
  in_rows rows n (r ∷ rs) h = go (module_fault rows n r) refl h (in_rows rows (suc n) rs)
    where
      go : (o : Option RowsFault) → module_fault rows n r ≡ o → ◌≡◌ {A = Option RowsFault} (elim o [ None ↦ fault_from rows (suc n) rs | Some e ↦ Some e ]) eight → (fault_from rows (suc n) rs ≡ eight → (k : ℕ) × AtPlace (places_in rows rs k) (suc n + k)) → (k : ℕ) × AtPlace (places_in rows (r ∷ rs) k) (n + k)
      go None q h rec = let t = rec h in let z : suc n + t.0 ≡ n + suc t.0 = omega arith in (suc t.0, subst (λ x. AtPlace (places_in rows rs t.0) x) z t.1)
      go (Some e) q h rec = let z : n ≡ n + 0 = omega arith in (0, subst (λ x. AtPlace (places_of rows r) x) z (in_module rows n r (q ∙ h)))

  pub found : (rows : List Place) (ms : List ModuleRow) → fault rows ms ≡ eight → AtPlace (places_in rows ms m) m
  unfolding fault
  found rows ms h =
      let t = in_rows rows 0 ms h in
      let z : t.0 ≡ m = omega (arith, t.1.same) in
      let w : 0 + t.0 ≡ m = omega (arith, t.1.same) in
      subst (λ x. AtPlace (places_in rows ms x) m) z (subst (λ x. AtPlace (places_in rows ms t.0) x) w t.1)

pub tells_of_walks : (rows : List Place) (ms : List ModuleRow) (verdict : Option RowsFault) → verdict ≡ fault rows ms → TellsOfWalks rows ms verdict
tells_of_walks rows ms v e = record {
  comes_back = λ m i q. (let p = found m i rows ms (sym e ∙ q) in unguarded_returns (places_in rows ms m) p.all_inside i (omega (arith, p.here.in_range)) p.here.fails);
  first = λ m i q j l c. (let p = found m i rows ms (sym e ∙ q) in guarded_ends (places_in rows ms m) j (p.here.before j (omega arith) l) c);
  none_returns = λ q m l i u c. guarded_ends (places_in rows ms m) i ((each_accepted rows ms (sym e ∙ q) m l).well_formed.no_return i u) c;
}
