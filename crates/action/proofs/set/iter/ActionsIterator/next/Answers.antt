use Rattle.std.proofs.Common.{rules, ◌≡◌, ℕ, ◌+◌, ◌-◌, ◌<◌, ◌≤◌, true, false, [], ◌∷◌, ℤ, Option, Some, None, refl, sym, ◌∙◌, ap, subst, arith, w8, to_z, of_z}
use Rattle.std.specs.Prelude.{MatchOption}
use Rattle.std.proofs.lemmas.Iterator.{first_from_Range}
use Rattle.action.specs.declared.set.ActionSet.{ActionSet}
use Rattle.action.specs.Sets.{has, signed}
use Rattle.action.specs.Iterating.{coming, Comes}
use Rattle.action.proofs.Walking.{from, from_held, skipped, none_left}
use Rattle.action.proofs.set.iter.ActionsIterator.next.Goals as goal

-- what the search for the next bit found
abbrev Finds : ActionSet → ℕ → Option ℕ → Type 0
Finds s from r = MatchOption r ((k : ℕ) → from ≤ k → k < 63 → k < 63 → has s (signed k) ≡ false)
    (λ i. (from ≤ i) × (i < 63) × (has s (signed i) ≡ true) × ((k : ℕ) → from ≤ k → k < i → k < 63 → has s (signed k) ≡ false))

ended : (s : ActionSet) (k : ℕ) (r : Option ℕ) → Finds s k r → r ≡ None → from s k ≡ []
ended s k None h e = none_left s (63 - k) k refl (λ i l u. h i l u u)
ended s k (Some i) h e = absurd (search rules)

found : (s : ActionSet) (k : ℕ) (r : Option ℕ) (b : ℕ) → Finds s k r → r ≡ Some b → from s k ≡ signed b ∷ from s (b + 1)
found s k None b h e = absurd (search rules)
found s k (Some i) b h e =
    let same : i ≡ b = search rules in
    let there : k + (i - k) ≡ i = omega (arith, h.0) in
    let past : from s k ≡ from s i = skipped s (i - k) k (omega (arith, h.0, h.1)) (λ j l u. h.3 j l (omega (arith, u, h.0)) (omega (arith, u, h.0, h.1))) ∙ ap (from s) there in
    let here : from s i ≡ signed i ∷ from s (i + 1) = from_held s i (i + 1) (signed i) h.1 (omega arith) refl h.2 in
    subst (λ j. from s k ≡ signed j ∷ from s (j + 1)) same (past ∙ here)

pub returns-in_err-bit-clause-steps : goal.returns-in_err-bit-clause-steps
unfolding coming
returns-in_err-bit-clause-steps c =
    let s = c.args.self.now.set in
    let h : Finds s c.args.self.now.bit c.find.result = first_from_Range _ _ _ _ (λ k. has s (signed k) ≡ true) (λ k. k < 63 → has s (signed k) ≡ false) c.find.ensures.ran (λ x q k. search rules) (λ x q k. (search rules, λ u. search rules)) in
    let none = ended s c.args.self.now.bit c.find.result h c.in_err-bit.was in
    subst (λ r. Comes (coming c.args.self.now) r (coming c.args.self.now)) (sym c.from_residual.ensures) (none, none)

pub returns-clause-steps : goal.returns-clause-steps
unfolding coming
returns-clause-steps c =
    let s = c.args.self.now.set in
    let h : Finds s c.args.self.now.bit c.find.result = first_from_Range _ _ _ _ (λ k. has s (signed k) ≡ true) (λ k. k < 63 → has s (signed k) ≡ false) c.find.ensures.ran (λ x q k. search rules) (λ x q k. (search rules, λ u. search rules)) in
    let is : to_z w8 (of_z w8 c.action_at.result) ≡ signed c.in_ok-bit.bit = search rules in
    found s c.args.self.now.bit c.find.result c.in_ok-bit.bit h c.in_ok-bit.was ∙ ap (λ (a : ℤ). a ∷ from s (c.in_ok-bit.bit + 1)) (sym is)
