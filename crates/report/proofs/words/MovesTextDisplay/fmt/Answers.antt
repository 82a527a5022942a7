use Rattle.std.proofs.Common.{sym, ◌∙◌, refl, rules}
use Rattle.catalogue.specs.Catalogue.{state_in}
use Rattle.catalogue.specs.Walking.{moves_to_come}
use Rattle.report.specs.Text.{move_text}
use Rattle.report.proofs.Writing.{one_further, all_listed}
use Rattle.report.proofs.words.MovesTextDisplay.fmt.Goals as goal

pub loop-step-preserved : goal.loop-step-preserved
loop-step-preserved g c p =
    let w = c.loop-step.invariant p in
    one_further g.W.Write.write_str_gives move_text c.in-Some-step.step (moves_to_come g.C.Catalogue.meaning c.loop-step.step-iterator) _ _ _ _ _ c.in-Some-step.ensures.steps w (c.in_ok-write-2.ensures.writes w.wrote.plain refl)

pub returns-clause-writes : goal.returns-clause-writes
returns-clause-writes g c p e =
    let h = c.in_ok-write.ensures.writes p refl in
    let w = c.loop-step.invariant h.plain in
    all_listed g.W.Write.write_str_gives move_text c.in-Some.first (state_in (g.C.Catalogue.meaning c.args.self.now.catalogue.now) c.args.self.now.part c.args.self.now.code).moves (moves_to_come g.C.Catalogue.meaning c.into_iter-step-iterator.result) (moves_to_come g.C.Catalogue.meaning c.loop-step.step-iterator) _ _ _ (sym c.of-rest.ensures ∙ c.in-Some.ensures.steps ∙ search rules) c.in-None.ensures.steps.0 h w
