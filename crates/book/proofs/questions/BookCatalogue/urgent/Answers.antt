use Rattle.std.proofs.Common.{false, sym, refl, ap, ◌∙◌}
use Rattle.catalogue.specs.Catalogue.{State}
use Rattle.book.proofs.Sets.{empty_is}
use Rattle.book.proofs.Answering.{nowhere_found, its_state}
use Rattle.book.proofs.questions.BookCatalogue.urgent.Goals as goal

pub returns-in-Some : goal.returns-in-Some
returns-in-Some c = c.urgent.ensures ∙ ap (λ (x : State). x.urgent) (its_state c.args.self.now.places.now c.args.self.now.modules.now c.args.part c.in-Some.equations c.in-Some.ensures c.args.code)

pub returns-in-None : goal.returns-in-None
returns-in-None c =
    empty_is (λ _. false) c.empty.result c.empty.ensures (λ _. refl)
    ∙ ap (λ (x : State). x.urgent) (sym (nowhere_found c.args.self.now.places.now c.args.self.now.modules.now c.args.part c.in-None.ensures c.args.code))
