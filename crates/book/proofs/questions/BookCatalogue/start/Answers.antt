use Rattle.std.proofs.Common.{arith}
use Rattle.book.proofs.Answering.{its_start_small, its_start}
use Rattle.book.proofs.questions.BookCatalogue.start.Goals as goal

pub overflow_cast-result : goal.overflow_cast-result
overflow_cast-result c = let n = its_start_small c.args.self.now.places.now c.args.self.now.modules.now c.args.part c.in_ok-equations.equations c.in_ok-equations.ensures in omega arith

pub overflow_mul-result : goal.overflow_mul-result
overflow_mul-result c = let n = its_start_small c.args.self.now.places.now c.args.self.now.modules.now c.args.part c.in_ok-equations.equations c.in_ok-equations.ensures in omega arith

pub returns : goal.returns
returns c = its_start c.args.self.now.places.now c.args.self.now.modules.now c.args.part c.in_ok-equations.equations c.in_ok-equations.ensures
