use Rattle.std.proofs.Common.{ap, ◌∙◌}
use Rattle.catalogue.specs.Catalogue.{State}
use Rattle.book.proofs.Answering.{its_state}
use Rattle.book.proofs.questions.BookCatalogue.tick.Goals as goal

pub returns : goal.returns
returns c = c.tick.ensures ∙ ap (λ (x : State). x.tick) (its_state c.args.self.now.places.now c.args.self.now.modules.now c.args.part c.in_ok-equations.field-0 c.in_ok-equations.ensures c.args.code)
