use Rattle.std.proofs.Common.{false, sym, refl, ap, ◌∙◌}
use Rattle.catalogue.specs.Catalogue.{State}
use Rattle.book.proofs.Sets.{empty_is}
use Rattle.book.proofs.Answering.{state_told, nowhere_told}
use Rattle.book.proofs.equations.Equations.urgent.Goals as goal

pub returns-in-Some : goal.returns-in-Some
returns-in-Some c = c.urgent_at.ensures ∙ sym (ap (λ (x : State). x.urgent) (state_told c.args.self.now.places.now c.args.code (c.in-Some.place, c.in-Some.age) c.in-Some.ensures))

pub returns-in-None : goal.returns-in-None
returns-in-None c =
    empty_is (λ _. false) c.empty.result c.empty.ensures (λ _. refl)
    ∙ sym (ap (λ (x : State). x.urgent) (nowhere_told c.args.self.now.places.now c.args.code c.in-None.ensures))
