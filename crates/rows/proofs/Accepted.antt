-- What is known of rows that are not at fault. Assumes nothing.
use Rattle.std.proofs.Common.{◌≡◌, ℕ, zero, suc, ◌+◌, ◌<◌, ◌≤◌, Bool, true, false, ltb, leb, ◌⊎◌, List, [], ◌∷◌, length, drop, Some, None, Option, refl, subst, inl, inr, arith, length-drop, length-take}
use Rattle.std.proofs.lemmas.Bool.{cases_lt, leb-true, ltb-true}
use Rattle.catalogue.specs.Catalogue.{most_moves}
use Rattle.rows.specs.declared.row.Place.{Place}
use Rattle.rows.specs.declared.row.ModuleRow.{ModuleRow}
use Rattle.rows.specs.declared.fault.RowsFault.{RowsFault}
use Rattle.rows.specs.Places.{ages, depth_of, moves_of}
use Rattle.rows.specs.Opening.{book_modules, book_places, places_of, first_failing, unless, unless_at, try_each, places_fault, module_fault, fault_from, fault, WellFormed, row_of}

not_some : {A : Type 0} (x : A) → ◌≡◌ {A = Option A} (Some x) None → ⊥
not_some x e = let z : ◌≡◌ {A = ℕ} 0 1 = cc in omega arith

pub none_fails : (f : ℕ → Bool) (n k : ℕ) → first_failing f n k ≡ None → (i : ℕ) → k ≤ i → i < k + n → f i ≡ true
none_fails f zero k e i l u = absurd (omega arith)
none_fails f (suc n) k e i l u = go (f k) refl e (cases_lt k i) (none_fails f n (suc k))
  where
    go : (b : Bool) → f k ≡ b → ◌≡◌ {A = Option ℕ} (elim b [ true ↦ first_failing f n (suc k) | false ↦ Some k ]) None → (k < i) ⊎ (i ≤ k) → (first_failing f n (suc k) ≡ None → (j : ℕ) → suc k ≤ j → j < suc k + n → f j ≡ true) → f i ≡ true
    go true q h (inl m) rec = rec h i (omega arith) (omega arith)
    go true q h (inr m) rec = let s : k ≡ i = omega arith in subst (λ x. f x ≡ true) s q
    go false q h s rec = absurd (not_some k h)

passed : (o : Option ℕ) (e : ℕ → RowsFault) (rest : Option RowsFault) → unless_at o e rest ≡ None → (o ≡ None) × (rest ≡ None)
passed (Some i) e rest q = absurd (not_some (e i) q)
passed None e rest q = (refl, q)

all_pass : (ps : List Place) (m : ℕ) (f : ℕ → Bool) (e : ℕ → RowsFault) (rest : Option RowsFault) → try_each ps m f e rest ≡ None → ((i : ℕ) → i < length ps → f i ≡ true) × (rest ≡ None)
all_pass ps m f e rest q =
    let p = passed (first_failing f (length ps) 0) e rest q in
    ((λ i l. none_fails f (length ps) 0 p.0 i (omega arith) (omega arith)), p.1)

pub well_formed : (ps : List Place) (m : ℕ) → places_fault ps m ≡ None → WellFormed ps
unfolding places_fault
well_formed ps m e =
    let a = all_pass ps m _ _ _ e in
    let b = all_pass ps m _ _ _ a.1 in
    let c = all_pass ps m _ _ _ b.1 in
    let d = all_pass ps m _ _ _ c.1 in
    let g = all_pass ps m _ _ _ d.1 in
    record { in_module = a.0; actions = b.0; no_return = c.0; shallow = λ i l. ltb-true (depth_of ps i) ages (d.0 i l); few = λ i l. leb-true (length (moves_of ps i)) most_moves (g.0 i l) }

-- a module whose row and places passed every trial
pub record Accepted (rows : List Place) (m : ℕ) (r : ModuleRow) : Type 0 where
  pub few_modules : m < book_modules
  pub few_places : r.places ≤ book_places
  pub lent : r.first + r.places ≤ length rows
  pub start_known : r.start < r.places
  pub well_formed : WellFormed (places_of rows r)

kept_on : (b : Bool) (e : RowsFault) (rest : Option RowsFault) → unless b e rest ≡ None → (b ≡ true) × (rest ≡ None)
kept_on true e rest q = (refl, q)
kept_on false e rest q = absurd (not_some e q)

pub accepted : (rows : List Place) (m : ℕ) (r : ModuleRow) → module_fault rows m r ≡ None → Accepted rows m r
unfolding module_fault
accepted rows m r q =
    let a = kept_on (ltb m book_modules) _ _ q in
    let b = kept_on (leb r.places book_places) _ _ a.1 in
    let c = kept_on (leb (r.first + r.places) (length rows)) _ _ b.1 in
    let d = kept_on (ltb r.start r.places) _ _ c.1 in
    record {
      few_modules = ltb-true m book_modules a.0;
      few_places = leb-true r.places book_places b.0;
      lent = leb-true (r.first + r.places) (length rows) c.0;
      start_known = ltb-true r.start r.places d.0;
      well_formed = well_formed (places_of rows r) m d.1;
    }

pub places_length : (rows : List Place) (m : ℕ) (r : ModuleRow) → Accepted rows m r → length (places_of rows r) ≡ r.places
places_length rows m r g = omega (arith, length-take r.places (drop r.first rows), length-drop r.first rows, g.lent)

all_accepted : (rows : List Place) (n : ℕ) (ms : List ModuleRow) → fault_from rows n ms ≡ None → (m : ℕ) → m < length ms → Accepted rows (n + m) (row_of ms m)
all_accepted rows n [] e m l = absurd (omega arith)
all_accepted rows n (r ∷ rs) e m l = go (module_fault rows n r) refl e m l (all_accepted rows (suc n) rs)
  where
    go : (o : Option RowsFault) → module_fault rows n r ≡ o → ◌≡◌ {A = Option RowsFault} (elim o [ None ↦ fault_from rows (suc n) rs | Some x ↦ Some x ]) None → (k : ℕ) → k < length (r ∷ rs) → (fault_from rows (suc n) rs ≡ None → (j : ℕ) → j < length rs → Accepted rows (suc n + j) (row_of rs j)) → Accepted rows (n + k) (row_of (r ∷ rs) k)
    go (Some x) q h k u rec = absurd (not_some x h)
    go None q h zero u rec = let z : n ≡ n + 0 = omega arith in subst (λ j. Accepted rows j r) z (accepted rows n r q)
    go None q h (suc k) u rec = let z : suc n + k ≡ n + suc k = omega arith in subst (λ j. Accepted rows j (row_of rs k)) z (rec h k (omega arith))

pub each_accepted : (rows : List Place) (ms : List ModuleRow) → fault rows ms ≡ None → (m : ℕ) → m < length ms → Accepted rows m (row_of ms m)
unfolding fault
each_accepted rows ms e m l = let z : 0 + m ≡ m = omega arith in subst (λ j. Accepted rows j (row_of ms m)) z (all_accepted rows 0 ms e m l)
