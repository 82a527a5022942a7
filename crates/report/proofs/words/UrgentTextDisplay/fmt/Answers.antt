use Rattle.std.proofs.Common.{◌++◌, codes as ascii, sym, ◌∙◌, refl, rules}
use Rattle.std.proofs.Output.{has_written_of_eq}
use Rattle.action.specs.Sets.{members}
use Rattle.action.specs.Iterating.{coming}
use Rattle.report.specs.Text.{action_text}
use Rattle.report.proofs.Writing.{one_further, all_listed}
use Rattle.report.proofs.words.UrgentTextDisplay.fmt.Goals as goal

pub loop-action-preserved : goal.loop-action-preserved
loop-action-preserved g c p =
    let w = c.loop-action.invariant p in
    one_further g.W.Write.write_str_gives action_text c.in-Some-action.action (coming c.loop-action.action-iterator) _ _ _ _ _ c.in-Some-action.ensures.steps w (has_written_of_eq g.W.Write.write_str_gives _ _ (ascii " " ++ action_text c.in-Some-action.action) _ (search rules) (c.in_ok-write-2.ensures.writes w.wrote.plain refl))

pub returns-clause-writes : goal.returns-clause-writes
returns-clause-writes g c p e =
    let h = has_written_of_eq g.W.Write.write_str_gives _ _ (ascii " " ++ action_text c.in-Some.first) _ (search rules) (c.in_ok-write.ensures.writes p refl) in
    let w = c.loop-action.invariant h.plain in
    all_listed g.W.Write.write_str_gives action_text c.in-Some.first (members c.args.self.now.0) (coming c.into_iter-action-iterator.result) (coming c.loop-action.action-iterator) _ _ _ (sym c.iter-rest.ensures ∙ c.in-Some.ensures.steps ∙ search rules) c.in-None.ensures.steps.0 h w
