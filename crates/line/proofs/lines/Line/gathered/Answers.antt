use Rattle.std.proofs.Common.{◌≡◌, ◌&&◌, ◌||◌, length, ℤ, sym, ap, ◌∙◌, subst, length-append, rules}
use Rattle.std.specs.Slice.Iter.{iter_rest}
use Rattle.std.specs.Iterator.Adapters.{zip_first, zip_second}
use Rattle.std.proofs.lemmas.Slice.Zip.{zip_turn}
use Rattle.action.specs.Action.{internal, same}
use Rattle.action.specs.declared.set.ActionSet.{ActionSet}
use Rattle.action.specs.Sets.{has, meets}
use Rattle.renaming.specs.Renaming.{image}
use Rattle.catalogue.specs.Catalogue.{Catalogue}
use Rattle.line_rules.specs.Time.{held}
use Rattle.line_rules.proofs.Gathering.{Gathered, gathered_more, met_then, met_else}
use Rattle.line.specs.Meaning.{in_use, line_of}
use Rattle.line.proofs.Timing.{held_at}
use Rattle.line.proofs.lines.Line.gathered.Goals.{then-meets_opposites, else-meets_opposites}
use Rattle.line.proofs.lines.Line.gathered.Goals as goal

pub loop-slot-preserved : goal.loop-slot-preserved
loop-slot-preserved g c =
    let ms : Catalogue = g.C.Catalogue.meaning c.args.catalogue.now in
    let line = line_of c.args.self.now in
    let s = c.args.state.now in
    let all = c.loop-slot.all in
    let i = length c.loop-slot.yielded in
    let next = held ms line s i in
    let first : iter_rest (zip_first c.into_iter-slot-iterator.result) ≡ in_use c.args.self.now = search rules in
    let second : iter_rest (zip_second c.into_iter-slot-iterator.result) ≡ s = search rules in
    let turn = zip_turn (in_use c.args.self.now) s c.loop-slot.yielded c.into_iter-slot-iterator.result c.loop-slot.slot-iterator c.next.new.self c.next.result first second c.loop-slot.yielded_by (c.in-Some.slot, c.in-Some.code) c.in-Some.is c.next.ensures.steps in
    let here : c.image-here.result ≡ next = c.image-here.ensures.value ∙ ap (image _) c.urgent.ensures ∙ sym (held_at c.args.self.now ms s i turn.0 turn.1 c.in-Some.slot.now turn.2 c.in-Some.code.now turn.3) in
    let meeting : c.meets_opposites.result ≡ meets all next = c.meets_opposites.ensures.value ∙ ap (meets all) here in
    let met : (a : ℤ) → has c.if-meets_opposites.all a ≡ (has all a || (meets all next && same a internal)) = elim c.if-meets_opposites.branch [
      | then-meets_opposites w ↦ subst (λ (x : ActionSet). (a : ℤ) → has x a ≡ (has all a || (meets all next && same a internal))) (sym w.all-is) (met_then all w.insert.new.self next (sym meeting ∙ w.if-meets_opposites.true) w.insert.ensures)
      | else-meets_opposites w ↦ subst (λ (x : ActionSet). (a : ℤ) → has x a ≡ (has all a || (meets all next && same a internal))) (sym w.all-is) (met_else all next (sym meeting ∙ w.if-meets_opposites.false))
    ] in
    subst (λ n. Gathered ms line s n c.union-all.result) (sym (length-append c.loop-slot.yielded _)) (gathered_more ms line s i all c.loop-slot.invariant c.if-meets_opposites.all c.union-all.result met
    (λ a. c.union-all.ensures a ∙ ap (λ (x : ActionSet). has c.if-meets_opposites.all a || has x a) here))
