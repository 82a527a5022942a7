use Rattle.std.specs.Fmt.{IsPlainFormatter}
use Rattle.catalogue.specs.Walking.{moves_to_come}
use Rattle.report.specs.Text.{move_text, spaced}
use Rattle.report.proofs.Writing.{Writing}
use Rattle.report.proofs.words.MovesTextDisplay.fmt.Given as goal

abbrev pub invariant-loop-step : goal.invariant-loop-step
invariant-loop-step g l =
    IsPlainFormatter l.initial.f → Writing g.W.Write.write_str_gives l.initial.f (spaced move_text (moves_to_come g.C.Catalogue.meaning l.initial.step-iterator)) (spaced move_text (moves_to_come g.C.Catalogue.meaning l.step-iterator)) l.f
