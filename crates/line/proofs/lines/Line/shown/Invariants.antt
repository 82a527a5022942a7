use Rattle.std.proofs.Common.{◌≡◌, ℤ}
use Rattle.action.specs.Iterating.{coming}
use Rattle.line_rules.proofs.Gathering.{lets}
use Rattle.line.specs.Meaning.{line_of}
use Rattle.line.proofs.lines.Line.shown.Given as goal

abbrev pub invariant-loop-action : goal.invariant-loop-action
invariant-loop-action l = (a : ℤ) → lets (line_of l.self) l.out (coming l.action-iterator) a ≡ lets (line_of l.self) l.initial.out (coming l.initial.action-iterator) a
