use Rattle.std.specs.Fmt.{IsPlainFormatter}
use Rattle.action.specs.Iterating.{coming}
use Rattle.report.specs.Text.{action_text, spaced}
use Rattle.report.proofs.Writing.{Writing}
use Rattle.report.proofs.words.UrgentTextDisplay.fmt.Given as goal

abbrev pub invariant-loop-action : goal.invariant-loop-action
invariant-loop-action g l =
    IsPlainFormatter l.initial.f → Writing g.W.Write.write_str_gives l.initial.f (spaced action_text (coming l.initial.action-iterator)) (spaced action_text (coming l.action-iterator)) l.f
