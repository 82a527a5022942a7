use Rattle.std.proofs.Common.{Some, subst}
use Rattle.action.specs.Lists.{nth}
use Rattle.catalogue.specs.Catalogue.{State}
use Rattle.catalogue.proofs.Layers.{asked_there, asked_nowhere}
use Rattle.layers.specs.declared.joined.Place.{Place}
use Rattle.layers.specs.Places.{Placed}
use Rattle.layers.proofs.joined.JoinedCatalogue.move_at.Goals as goal

pub returns-in_err-at : goal.returns-in_err-at
returns-in_err-at g c = asked_nowhere (λ (s : State). nth s.moves c.args.number) _ c.args.part c.args.code _ c.in_err-at.ensures c.from_residual.ensures

pub returns-in-Front : goal.returns-in-Front
returns-in-Front g c =
    let a = g.A.Catalogue.meaning c.args.self.now.front in
    let p = subst (λ (q : Place). Placed a (g.B.Catalogue.meaning c.args.self.now.back) c.args.part (Some q)) c.in-Front.is c.in_ok-at.ensures in
    asked_there (λ (s : State). nth s.moves c.args.number) _ a c.args.part c.in-Front.at c.args.code c.move_at.result p c.move_at.ensures

pub returns-in-Back : goal.returns-in-Back
returns-in-Back g c =
    let b = g.B.Catalogue.meaning c.args.self.now.back in
    let p = subst (λ (q : Place). Placed (g.A.Catalogue.meaning c.args.self.now.front) b c.args.part (Some q)) c.in-Back.is c.in_ok-at.ensures in
    asked_there (λ (s : State). nth s.moves c.args.number) _ b c.args.part c.in-Back.at c.args.code c.move_at-in-Back.result p c.move_at-in-Back.ensures
