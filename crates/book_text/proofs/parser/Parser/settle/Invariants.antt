use Rattle.book_text.proofs.Settling.{Settling}
use Rattle.book_text.proofs.parser.Parser.settle.Given as goal

abbrev pub invariant-loop-i : goal.invariant-loop-i
invariant-loop-i l = Settling l.text l.self l.initial.places l.places l.i
