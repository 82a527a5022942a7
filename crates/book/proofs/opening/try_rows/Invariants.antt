use Rattle.book.proofs.Modules.{SoFar}
use Rattle.book.proofs.opening.try_rows.Given as goal

abbrev pub invariant-loop-part : goal.invariant-loop-part
invariant-loop-part l = SoFar l.places l.modules l.part
