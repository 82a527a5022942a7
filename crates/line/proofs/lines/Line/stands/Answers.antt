use Rattle.std.proofs.Common.{ltb, ◌∙◌}
use Rattle.std.proofs.lemmas.Bool.{ne_eqb}
use Rattle.catalogue.specs.Catalogue.{Catalogue, codes, module_in}
use Rattle.line.proofs.Timing.{stands_not, stands_by, asks_all}
use Rattle.line.proofs.lines.Line.stands.Goals as goal

pub returns-then-state-self : goal.returns-then-state-self
returns-then-state-self g c =
    let ms : Catalogue = g.C.Catalogue.meaning c.args.catalogue.now in
    stands_by c.args.self.now ms c.args.state.now c.if-state-self.true _ (c.has_codes.ensures ∙ asks_all c.args.self.now (λ y k. ltb k (codes (module_in ms y.holds))) c.args.state.now c.if-state-self.true)

pub returns-else-state-self : goal.returns-else-state-self
returns-else-state-self g c = ne_eqb _ _ c.if-state-self.false ∙ stands_not c.args.self.now (g.C.Catalogue.meaning c.args.catalogue.now) c.args.state.now c.if-state-self.false
