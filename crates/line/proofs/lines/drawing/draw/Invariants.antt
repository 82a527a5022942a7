use Rattle.line.specs.Meaning.{plans}
use Rattle.line.proofs.Planning.{SlotsSoFar}
use Rattle.line.proofs.lines.drawing.draw.Given as goal

abbrev pub invariant-loop-i : goal.invariant-loop-i
invariant-loop-i g l = SlotsSoFar (g.C.Catalogue.meaning l.catalogue) (plans l.slots) l.i l.held
