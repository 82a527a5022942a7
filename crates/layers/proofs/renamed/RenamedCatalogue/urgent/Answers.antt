use Rattle.std.proofs.Common.{sym, ap, ◌∙◌}
use Rattle.renaming.specs.Renaming.{image}
use Rattle.catalogue.specs.Catalogue.{State}
use Rattle.catalogue.proofs.Layers.{renamed_in}
use Rattle.layers.proofs.renamed.RenamedCatalogue.urgent.Goals as goal

pub returns : goal.returns
returns g c =
    let f = c.args.self.now.renaming.entries in
    c.image.ensures.value
    ∙ ap (image f) c.urgent.ensures
    ∙ ap (λ (s : State). s.urgent) (sym (renamed_in f (g.C.Catalogue.meaning c.args.self.now.inner) c.args.part c.args.code))
