use Rattle.std.proofs.Common.{sym, ap, ◌∙◌}
use Rattle.catalogue.specs.Catalogue.{State}
use Rattle.catalogue.proofs.Layers.{renamed_in}
use Rattle.layers.proofs.renamed.RenamedCatalogue.tick.Goals as goal

pub returns : goal.returns
returns g c = c.tick.ensures ∙ ap (λ (s : State). s.tick) (sym (renamed_in c.args.self.now.renaming.entries (g.C.Catalogue.meaning c.args.self.now.inner) c.args.part c.args.code))
