use Rattle.book.proofs.Answering.{its_codes}
use Rattle.book.proofs.questions.BookCatalogue.codes.Goals as goal

pub returns : goal.returns
returns c = its_codes c.args.self.now.places.now c.args.self.now.modules.now c.args.part c.in_ok-equations.equations c.in_ok-equations.ensures
