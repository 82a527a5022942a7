use Rattle.std.proofs.Common.{◌≡◌, List, [], Some, None, refl, ap, ◌∙◌, subst, min, length, rules}
use Rattle.catalogue.specs.Catalogue.{Catalogue}
use Rattle.line_rules.specs.Line.{Slot, most_slots}
use Rattle.line_rules.specs.Drawing.{draw_fault, planned}
use Rattle.line.specs.Meaning.{line_of, plans}
use Rattle.swaps_text.specs.Text.{first_slots}
use Rattle.swaps_text.proofs.Plans.{plans_first, drawn_printed, undrawn_printed}
use Rattle.swaps_text.proofs.swaps_text.Goals as goal

pub returns-in-Ok : goal.returns-in-Ok
returns-in-Ok g c =
    let ms : Catalogue = g.C.Catalogue.meaning c.args.catalogue.now in
    let p : plans c.deref.result.now ≡ first_slots ms = ap plans (c.deref.ensures.value ∙ c.in_ok-plans.ensures) ∙ plans_first 0 (min (length ms) most_slots) _ (c.entries.ensures ∙ c.identity-unrenamed.ensures.value) in
    let d = subst (λ (xs : List Slot). (draw_fault ms xs [] ≡ None) × (line_of c.in-Ok.drawn ≡ planned xs [])) p c.in-Ok.ensures.answer in
    drawn_printed c.trials_text.result ms (line_of c.in-Ok.drawn) d.0 d.1 c.trials_text.ensures

pub returns : goal.returns
returns g c =
    let ms : Catalogue = g.C.Catalogue.meaning c.args.catalogue.now in
    let p : plans c.deref.result.now ≡ first_slots ms = ap plans (c.deref.ensures.value ∙ c.in_ok-plans.ensures) ∙ plans_first 0 (min (length ms) most_slots) _ (c.entries.ensures ∙ c.identity-unrenamed.ensures.value) in
    let d = subst (λ (xs : List Slot). draw_fault ms xs [] ≡ Some c.in-Err.fault) p c.in-Err.ensures.answer in
    undrawn_printed c.format.result ms c.in-Err.fault d (search rules)
