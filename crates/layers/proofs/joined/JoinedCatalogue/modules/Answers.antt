use Rattle.std.proofs.Common.{arith}
use Rattle.catalogue.proofs.Layers.{joined_length}
use Rattle.layers.proofs.joined.JoinedCatalogue.modules.Goals as goal

pub returns : goal.returns
returns g c = omega (arith, joined_length (g.A.Catalogue.meaning c.args.self.now.front) (g.B.Catalogue.meaning c.args.self.now.back))
