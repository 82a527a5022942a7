use Rattle.book_text.proofs.Completing.{Completing}
use Rattle.book_text.proofs.parser.Parser.complete.Given as goal

abbrev pub invariant-loop-i : goal.invariant-loop-i
invariant-loop-i l = Completing l.self.stack.ops l.low l.self.first l.self.rows l.self.stack.pending l.initial.places l.n l.i l.places
