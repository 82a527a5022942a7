-- The moves of a state, one after the other. Assumes nothing.
use Rattle.std.proofs.Common.{◌≡◌, ℕ, zero, suc, ◌+◌, ◌<◌, ◌≤◌, ◌⊎◌, List, [], ◌∷◌, length, drop, Some, None, Option, sym, ap, ◌∙◌, subst, inl, inr, arith}
use Rattle.std.proofs.lemmas.List.{get_or_past, drop_all}
use Rattle.std.proofs.lemmas.Bool.{cases_lt}
use Rattle.action.specs.Lists.{nth}
use Rattle.action.specs.Iterating.{Comes}
use Rattle.catalogue.specs.Catalogue.{Catalogue, Lawful, state_in, state, absent, most_moves}

module _ {A : Type 0} where
  -- the element with a number stands in front of what is left from that number on
  pub nth_in : (xs : List A) (k : ℕ) (x : A) → Some x ≡ nth xs k → (k < length xs) × (drop k xs ≡ x ∷ drop (k + 1) xs)
  nth_in [] k x e = let z : ◌≡◌ {A = ℕ} 0 1 = cc in absurd (omega arith)
  nth_in (y ∷ ys) zero x e = let z : x ≡ y = cc in (omega arith, ap (λ (w : A). w ∷ ys) (sym z))
  nth_in (y ∷ ys) (suc k) x e =
      let r = nth_in ys k x e in
      let q : suc k + 1 ≡ suc (k + 1) = omega arith in
      (omega (arith, r.0), r.1 ∙ ap (λ j. x ∷ drop j (y ∷ ys)) (sym q))

  pub nth_out : (xs : List A) (k : ℕ) → ◌≡◌ {A = Option A} None (nth xs k) → length xs ≤ k
  nth_out [] k e = omega arith
  nth_out (y ∷ ys) zero e = let z : ◌≡◌ {A = ℕ} 0 1 = cc in absurd (omega arith)
  nth_out (y ∷ ys) (suc k) e = omega (arith, nth_out ys k e)

  -- a step from number k
  pub comes_on : (xs : List A) (k : ℕ) (x : A) → Some x ≡ nth xs k → drop k xs ≡ x ∷ drop (k + 1) xs
  comes_on xs k x e = (nth_in xs k x e).1

  pub comes_none : (xs : List A) (k : ℕ) (r : Option A) → r ≡ None → ◌≡◌ {A = Option A} None (nth xs k) → Comes (drop k xs) r (drop k xs)
  comes_none xs k r n e =
      let z : drop k xs ≡ [] = drop_all k xs (nth_out xs k e) in
      subst (λ o. Comes (drop k xs) o (drop k xs)) (sym n) (z, z)

pub moves_bound : (ms : Catalogue) (m c : ℕ) → Lawful ms → length (state_in ms m c).moves ≤ most_moves
moves_bound ms m c h = go (cases_lt m (length ms))
  where
    go : (m < length ms) ⊎ (length ms ≤ m) → length (state_in ms m c).moves ≤ most_moves
    go (inl l) = (h.sound m l).few_moves c
    go (inr l) = subst (λ x. length (state x c).moves ≤ most_moves) (sym (get_or_past ms m absent l)) (omega arith)
