use Rattle.std.proofs.Common.{◌≡◌, ℕ, ◌+◌, List, ◌-◌, ◌<◌, Bool, true, false, T, ◌↔◌, refl, sym, ◌∙◌, ap, subst, arith, rules}
use Rattle.std.specs.Prelude.{MatchBool, slice_index_or}
use Rattle.std.specs.List.{range_with_len, HoldsAt, AllWithin}
use Rattle.std.proofs.lemmas.Iterator.{cases_from_any, YieldsList-from_range}
use Rattle.std.proofs.lemmas.List.FromFn.{get_or-range_with_len}
use Rattle.action.specs.declared.set.ActionSet.{ActionSet}
use Rattle.action.specs.Sets.{meets, meets_on}
use Rattle.action.proofs.Basics.{true_T, T_true}
use Rattle.action.proofs.Relations.{Met, both_true, meets_met, met_meets, on_met, met_on}
use Rattle.action.proofs.set.ActionSet.meets_opposites.Goals as goal

abbrev ports : List ℕ
ports = range_with_len 1 31

-- the answer, by whether some port passes
abbrev Said : ActionSet → ActionSet → Bool → Type 0
Said s t r = (r ≡ meets s t) × (T r ↔ Met s t)

by_port : (s t : ActionSet) (r : Bool) → MatchBool r ((k : ℕ) × (k < 31) × HoldsAt (λ p. meets_on s t p ≡ true) ports k) (AllWithin (λ p. meets_on s t p ≡ false) ports 0 31) → Said s t r
by_port s t true h =
    let k = h.0 in
    let is : slice_index_or ports k 0 ≡ 1 + k = get_or-range_with_len 1 31 k 0 h.1 in
    let met = on_met s t (1 + k) (omega arith) (T_true (meets_on s t (1 + k)) (subst (λ p. meets_on s t p ≡ true) is (h.2 0))) in
    (sym (true_T (meets s t) (met_meets s t met)), ((λ _. met), (λ _. tt)))
by_port s t false h =
    let none : Met s t → ⊥ = λ m. (let w = met_on s t m in
    let k = w.0 - 1 in
    let is : slice_index_or ports k 0 ≡ 1 + k = get_or-range_with_len 1 31 k 0 (omega (arith, w.1, w.2)) in
    let same : 1 + k ≡ w.0 = omega (arith, w.1) in
    subst T (sym (ap (meets_on s t) (is ∙ same)) ∙ h k 0 (omega arith) (omega (arith, w.1, w.2))) w.3) in
    (both_true false (meets s t) (λ f. absurd f) (λ x. none (meets_met s t x)), ((λ f. absurd f), none))

pub returns : goal.returns
returns c =
    let s = c.args.self in
    let t = c.args.other in
    let d = by_port s t c.any.result (cases_from_any _ _ _ (λ p. meets_on s t p ≡ true) (λ p. meets_on s t p ≡ false) c.any.ensures.ran (YieldsList-from_range 1 32 _ refl refl) (λ x q k. search rules) (λ x q k. search rules)) in
    record { value = d.0; means = d.1 }
