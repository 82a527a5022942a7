use Rattle.std.proofs.Common.{◌≡◌, true, List, ℤ, length, sym, ◌∙◌, ap, subst, MatchResult, Result, Err, Some, rules}
use Rattle.std.proofs.lemmas.Result.{err_from_is_err_and}
use Rattle.action.specs.Action.{last_port}
use Rattle.renaming.specs.Renaming.{full}
use Rattle.renaming.specs.Faults.{Made}
use Rattle.renaming.specs.declared.fault.RenamingFault.{RenamingFault}
use Rattle.renaming.specs.declared.fault.RenamingFault.TheVariants.{Length}
use Rattle.renaming.proofs.Taking.{first_wrong_is, fault_length, fault_entry, fault_shared, fault_none, right_full}
use Rattle.renaming.proofs.renaming.Renaming.new.Goals as goal

-- the copy of entries that are as many as the ports, or how many they are
abbrev Copied : List ℤ → Result (List ℤ) RenamingFault → Type 0
Copied f r = MatchResult r (λ xs. (xs ≡ f) × (length f ≡ last_port)) (λ e. (length f ≡ last_port → ⊥) × (e ≡ Length (length f)))

pub returns-in_err-copy-clause-made : goal.returns-in_err-copy-clause-made
returns-in_err-copy-clause-made c =
    let told : Copied c.args.entries.now c.map_err.result = search rules in
    let h = subst (Copied c.args.entries.now) c.in_err-copy.was told in
    let e = err_from_is_err_and c.from_residual.result c.from_residual.ensures.1 in
    subst (Made c.args.entries.now) (sym (e.1 ∙ ap Err e.2)) (fault_length c.args.entries.now h.0 ∙ ap Some (sym h.1))

pub returns-in-Some-clause-made : goal.returns-in-Some-clause-made
returns-in-Some-clause-made c =
    let told : Copied c.args.entries.now c.map_err.result = search rules in
    let h = subst (Copied c.args.entries.now) c.in_ok-copy.was told in
    fault_entry c.args.entries.now c.in-Some.i h.1 (c.in-Some.ensures ∙ first_wrong_is c.args.entries.now)

pub returns-in-Some-first_shared-clause-made : goal.returns-in-Some-first_shared-clause-made
returns-in-Some-first_shared-clause-made c =
    let told : Copied c.args.entries.now c.map_err.result = search rules in
    let h = subst (Copied c.args.entries.now) c.in_ok-copy.was told in
    fault_shared c.args.entries.now c.in-Some-first_shared.i h.1 (c.in_default.ensures ∙ first_wrong_is c.args.entries.now) c.in-Some-first_shared.ensures

pub invariant_of-result : goal.invariant_of-result
invariant_of-result c =
    let told : Copied c.args.entries.now c.map_err.result = search rules in
    let h = subst (Copied c.args.entries.now) c.in_ok-copy.was told in
    record { full = subst (λ (xs : List ℤ). full xs ≡ true) (sym h.0) (right_full c.args.entries.now h.1 (sym (c.in_default.ensures ∙ first_wrong_is c.args.entries.now))) }

pub returns-clause-made : goal.returns-clause-made
returns-clause-made c =
    let told : Copied c.args.entries.now c.map_err.result = search rules in
    let h = subst (Copied c.args.entries.now) c.in_ok-copy.was told in
    (fault_none c.args.entries.now h.1 (c.in_default.ensures ∙ first_wrong_is c.args.entries.now) c.in_default-first_shared.ensures, h.0)
