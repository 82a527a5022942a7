use Rattle.std.proofs.Common.{sym, ◌∙◌}
use Rattle.catalogue.proofs.Layers.{renamed_start}
use Rattle.layers.proofs.renamed.RenamedCatalogue.start.Goals as goal

pub returns : goal.returns
returns g c = c.start.ensures ∙ sym (renamed_start c.args.self.now.renaming.entries (g.C.Catalogue.meaning c.args.self.now.inner) c.args.part)
