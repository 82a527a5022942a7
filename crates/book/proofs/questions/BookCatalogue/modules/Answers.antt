use Rattle.std.proofs.Common.{sym}
use Rattle.book.proofs.Answering.{count_at_fault, no_fault, count_is}
use Rattle.book.proofs.questions.BookCatalogue.modules.Goals as goal

pub returns-then-is_some : goal.returns-then-is_some
returns-then-is_some c = let b = c.args.self.now in sym (count_at_fault b.places.now b.modules.now b.verdict b.tried c.if-is_some.ensures)

pub returns : goal.returns
returns c = let b = c.args.self.now in sym (count_is b.places.now b.modules.now (no_fault b.places.now b.modules.now b.verdict b.tried c.if-is_some.ensures))
