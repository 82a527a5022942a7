use Rattle.std.proofs.Common.{sym, ◌∙◌}
use Rattle.catalogue.proofs.Layers.{renamed_length}
use Rattle.layers.proofs.renamed.RenamedCatalogue.modules.Goals as goal

pub returns : goal.returns
returns g c = c.modules.ensures ∙ sym (renamed_length c.args.self.now.renaming.entries (g.C.Catalogue.meaning c.args.self.now.inner))
