use Rattle.std.proofs.Common.{Some, subst}
use Rattle.catalogue.specs.Catalogue.{State}
use Rattle.catalogue.proofs.Layers.{asked_there, asked_nowhere}
use Rattle.layers.specs.declared.joined.Place.{Place}
use Rattle.layers.specs.Places.{Placed}
use Rattle.layers.proofs.joined.JoinedCatalogue.tick.Goals as goal

pub returns-in_err-number : goal.returns-in_err-number
returns-in_err-number g c = asked_nowhere (λ (s : State). s.tick) _ c.args.part c.args.code _ c.in_err-number.ensures c.from_residual.ensures

pub returns-in-Front : goal.returns-in-Front
returns-in-Front g c =
    let a = g.A.Catalogue.meaning c.args.self.now.front in
    let p = subst (λ (q : Place). Placed a (g.B.Catalogue.meaning c.args.self.now.back) c.args.part (Some q)) c.in-Front.is c.in_ok-number.ensures in
    asked_there (λ (s : State). s.tick) _ a c.args.part c.in-Front.number c.args.code c.tick.result p c.tick.ensures

pub returns-in-Back : goal.returns-in-Back
returns-in-Back g c =
    let b = g.B.Catalogue.meaning c.args.self.now.back in
    let p = subst (λ (q : Place). Placed (g.A.Catalogue.meaning c.args.self.now.front) b c.args.part (Some q)) c.in-Back.is c.in_ok-number.ensures in
    asked_there (λ (s : State). s.tick) _ b c.args.part c.in-Back.number c.args.code c.tick-in-Back.result p c.tick-in-Back.ensures
