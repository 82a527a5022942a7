use Rattle.std.proofs.Common.{Some, sym, ◌∙◌, subst}
use Rattle.action.specs.Sets.{no_actions}
use Rattle.action.proofs.Sets.{set_ext, none_has}
use Rattle.catalogue.specs.Catalogue.{State}
use Rattle.catalogue.proofs.Layers.{asked_there, asked_nowhere}
use Rattle.layers.specs.declared.joined.Place.{Place}
use Rattle.layers.specs.Places.{Placed}
use Rattle.layers.proofs.joined.JoinedCatalogue.urgent.Goals as goal

pub returns-in-Some-Front : goal.returns-in-Some-Front
returns-in-Some-Front g c =
    let a = g.A.Catalogue.meaning c.args.self.now.front in
    let p = subst (λ (q : Place). Placed a (g.B.Catalogue.meaning c.args.self.now.back) c.args.part (Some q)) c.in-Some-Front.field-0-is c.in-Some-Front.ensures in
    asked_there (λ (s : State). s.urgent) _ a c.args.part c.in-Some-Front.number c.args.code c.urgent.result p c.urgent.ensures

pub returns-in-Some-Back : goal.returns-in-Some-Back
returns-in-Some-Back g c =
    let b = g.B.Catalogue.meaning c.args.self.now.back in
    let p = subst (λ (q : Place). Placed (g.A.Catalogue.meaning c.args.self.now.front) b c.args.part (Some q)) c.in-Some-Back.field-0-is c.in-Some-Back.ensures in
    asked_there (λ (s : State). s.urgent) _ b c.args.part c.in-Some-Back.number c.args.code c.urgent-in-Some-Back.result p c.urgent-in-Some-Back.ensures

pub returns-in-None : goal.returns-in-None
returns-in-None g c = asked_nowhere (λ (s : State). s.urgent) _ c.args.part c.args.code _ c.in-None.ensures (set_ext c.empty.result no_actions (λ a. c.empty.ensures a ∙ sym (none_has a)))
