-- The trials of a module, one after the other, then the module's row. Assumes nothing.
use Rattle.std.proofs.Common.{◌≡◌, ℕ, suc, ◌+◌, ◌<◌, ◌≤◌, min, not, Bool, true, false, ltb, leb, cond, List, [], ◌∷◌, length, get_or, position, take, Some, None, Option, sym, refl, ap, ◌∙◌, add-zero, add-one, arith}
use Rattle.std.proofs.lemmas.Bool.Decides.{nat_tests}
use Rattle.std.proofs.lemmas.List.{get_or-take, length-take-le}
use Rattle.std.proofs.lemmas.Iterator.Adapters.{position_from-zero}
use Rattle.std.specs.List.{position_from}
use Rattle.catalogue.specs.Catalogue.{most_moves}
use Rattle.rows.specs.declared.row.Place.{Place}
use Rattle.rows.specs.declared.row.Place.TheVariants.{Nil}
use Rattle.rows.specs.declared.fault.RowsFault.TheVariants.{Outside, NoAction, Unguarded, Deep, ManyMoves}
use Rattle.rows.specs.Places.{ages, row, guarded, depth_of, moves_of}
use Rattle.rows.specs.Opening.{book_places, inside, by_action, first_failing, unless_at, try_each, places_fault}
use Rattle.rows.proofs.Accepted.{none_fails}
use Rattle.trial.specs.declared.summary.Summary.{Summary}
use Rattle.trial.specs.Summaries.{unknown, Summarizes}
use Rattle.trial.specs.Trying.{AllInside}

-- ── the first place that fails, as a search finds it ──

first_from : {A : Type 0} (t : A → Bool) (f : ℕ → Bool) (d : A) (xs : List A) (k : ℕ) → ((i : ℕ) → i < length xs → t (get_or xs i d) ≡ not (f (k + i))) → position_from t k xs ≡ first_failing f (length xs) k
first_from t f d [] k h = refl
first_from t f d (x ∷ xs) k h =
    let here : t x ≡ not (f k) = rw add-zero at (h 0 (omega arith)) in
    let later : position_from t (k + 1) xs ≡ first_failing f (length xs) (suc k) = rw add-one (first_from t f d xs (suc k) (λ i l. let e : k + suc i ≡ suc k + i = omega arith in h (suc i) (omega arith) ∙ ap (λ n. not (f n)) e)) in
    rw (here, later) (elim (f k) as (λ b. cond (not b) (Some k) (first_failing f (length xs) (suc k)) ≡ elim b [ true ↦ first_failing f (length xs) (suc k) | false ↦ Some k ]) [ true ↦ refl | false ↦ refl ])

first : {A : Type 0} (t : A → Bool) (f : ℕ → Bool) (d : A) (xs : List A) (n : ℕ) → length xs ≡ n → ((i : ℕ) → i < n → t (get_or xs i d) ≡ not (f i)) → position t xs ≡ first_failing f n 0
first t f d xs n l h = position_from-zero t xs ∙ first_from t f d xs 0 (λ i m. let e : i ≡ 0 + i = omega arith in h i (omega arith) ∙ ap (λ k. not (f k)) e) ∙ ap (λ k. first_failing f k 0) l

-- ── what summaries tell ──

ltb_cut : (d : ℕ) → ltb (min ages d) ages ≡ ltb d ages
ltb_cut d = grind (arith, nat_tests)

leb_cut : (n : ℕ) → leb (min (suc most_moves) n) most_moves ≡ leb n most_moves
leb_cut n = grind (arith, nat_tests)

-- summaries of the places of a module, and of no others
record Kept (ps : List Place) (own : List Summary) : Type 0 where
  as_many : length own ≡ length ps
  told : Summarizes ps (length ps) own

kept : (ps : List Place) (ss : List Summary) → length ps ≤ length ss → Summarizes ps (length ps) ss → Kept ps (take (length ps) ss)
kept ps ss l h = record { as_many = length-take-le (length ps) ss l; told = λ i m. get_or-take (length ps) ss i unknown m ∙ h i m }

module _ (ps : List Place) where
  outside : position (λ p. not (inside (length ps) p)) ps ≡ first_failing (λ i. inside (length ps) (row ps i)) (length ps) 0
  outside = first (λ p. not (inside (length ps) p)) (λ i. inside (length ps) (row ps i)) Nil ps (length ps) refl (λ i l. refl)

  no_action : position (λ p. not (by_action p)) ps ≡ first_failing (λ i. by_action (row ps i)) (length ps) 0
  no_action = first (λ p. not (by_action p)) (λ i. by_action (row ps i)) Nil ps (length ps) refl (λ i l. refl)

  module _ (own : List Summary) (k : Kept ps own) where
    unguarded : position (λ (s : Summary). not s.guarded) own ≡ first_failing (guarded ps) (length ps) 0
    unguarded = first (λ (s : Summary). not s.guarded) (guarded ps) unknown own (length ps) k.as_many (λ i l. ap (λ (s : Summary). not s.guarded) (k.told i l))

    deep : position (λ (s : Summary). not (ltb s.depth ages)) own ≡ first_failing (λ i. ltb (depth_of ps i) ages) (length ps) 0
    deep = first (λ (s : Summary). not (ltb s.depth ages)) (λ i. ltb (depth_of ps i) ages) unknown own (length ps) k.as_many (λ i l. ap (λ (s : Summary). not (ltb s.depth ages)) (k.told i l) ∙ ap not (ltb_cut (depth_of ps i)))

    rich : position (λ (s : Summary). not (leb s.moves most_moves)) own ≡ first_failing (λ i. leb (length (moves_of ps i)) most_moves) (length ps) 0
    rich = first (λ (s : Summary). not (leb s.moves most_moves)) (λ i. leb (length (moves_of ps i)) most_moves) unknown own (length ps) k.as_many (λ i l. ap (λ (s : Summary). not (leb s.moves most_moves)) (k.told i l) ∙ ap not (leb_cut (length (moves_of ps i))))

-- ── one trial after the other ──

module _ (ps : List Place) (m : ℕ) where
  pub all_inside : None ≡ position (λ p. not (inside (length ps) p)) ps → AllInside ps
  all_inside q i l = none_fails (λ j. inside (length ps) (row ps j)) (length ps) 0 (sym (q ∙ outside ps)) i (omega arith) (omega arith)

  pub by_rows : (a b : Option ℕ) → a ≡ position (λ p. not (inside (length ps) p)) ps → b ≡ position (λ p. not (by_action p)) ps → places_fault ps m ≡ unless_at a (Outside m) (unless_at b (NoAction m) (try_each ps m (guarded ps) (Unguarded m) (try_each ps m (λ i. ltb (depth_of ps i) ages) (Deep m) (try_each ps m (λ i. leb (length (moves_of ps i)) most_moves) (ManyMoves m) None))))
  unfolding places_fault
  by_rows a b p q = rw (p ∙ outside ps, q ∙ no_action ps)

  pub by_all : (ss : List Summary) → length ps ≤ book_places → length ss ≡ book_places → Summarizes ps (length ps) ss → (a b c d e : Option ℕ) → a ≡ position (λ p. not (inside (length ps) p)) ps → b ≡ position (λ p. not (by_action p)) ps → c ≡ position (λ (s : Summary). not s.guarded) (take (length ps) ss) → d ≡ position (λ (s : Summary). not (ltb s.depth ages)) (take (length ps) ss) → e ≡ position (λ (s : Summary). not (leb s.moves most_moves)) (take (length ps) ss) → places_fault ps m ≡ unless_at a (Outside m) (unless_at b (NoAction m) (unless_at c (Unguarded m) (unless_at d (Deep m) (unless_at e (ManyMoves m) None))))
  unfolding places_fault
  by_all ss few full told a b c d e p q r s t =
      let k : Kept ps (take (length ps) ss) = kept ps ss (omega arith) told in
      rw (p ∙ outside ps, q ∙ no_action ps, r ∙ unguarded ps (take (length ps) ss) k, s ∙ deep ps (take (length ps) ss) k, t ∙ rich ps (take (length ps) ss) k)
