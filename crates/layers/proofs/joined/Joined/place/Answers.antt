use Rattle.std.proofs.Common.{ℕ, ◌-◌, sym, ap, ◌∙◌, arith}
use Rattle.action.specs.Lists.{nth}
use Rattle.catalogue.proofs.Layers.{joined_front, joined_back, joined_past}
use Rattle.layers.proofs.joined.Joined.place.Goals as goal

pub returns-then-part-ge-MOST_MODULES : goal.returns-then-part-ge-MOST_MODULES
returns-then-part-ge-MOST_MODULES g c = joined_past (g.A.Catalogue.meaning c.args.self.now.front) (g.B.Catalogue.meaning c.args.self.now.back) c.args.part c.if-part-ge-MOST_MODULES.true

pub returns-then-part-front : goal.returns-then-part-front
returns-then-part-front g c = joined_front (g.A.Catalogue.meaning c.args.self.now.front) (g.B.Catalogue.meaning c.args.self.now.back) c.args.part c.if-part-ge-MOST_MODULES.false (omega (arith, c.if-part-front.true, c.modules-front.ensures))

pub returns-else-part-front : goal.returns-else-part-front
returns-else-part-front g c =
    let a = g.A.Catalogue.meaning c.args.self.now.front in
    let b = g.B.Catalogue.meaning c.args.self.now.back in
    joined_back a b c.args.part c.if-part-ge-MOST_MODULES.false (omega (arith, c.if-part-front.false, c.modules-front.ensures)) ∙ ap (λ (n : ℕ). nth b (c.args.part - n)) (sym c.modules-front.ensures)
