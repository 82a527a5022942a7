use Rattle.std.proofs.Common.{sym, ◌∙◌}
use Rattle.catalogue.proofs.Layers.{renamed_codes}
use Rattle.layers.proofs.renamed.RenamedCatalogue.codes.Goals as goal

pub returns : goal.returns
returns g c = c.codes.ensures ∙ sym (renamed_codes c.args.self.now.renaming.entries (g.C.Catalogue.meaning c.args.self.now.inner) c.args.part)
