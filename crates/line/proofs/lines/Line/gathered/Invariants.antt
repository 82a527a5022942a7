use Rattle.std.proofs.Common.{length}
use Rattle.line_rules.proofs.Gathering.{Gathered}
use Rattle.line.specs.Meaning.{line_of}
use Rattle.line.proofs.lines.Line.gathered.Given as goal

abbrev pub invariant-loop-slot : goal.invariant-loop-slot
invariant-loop-slot g l = Gathered (g.C.Catalogue.meaning l.catalogue) (line_of l.self) l.state (length l.yielded) l.all
