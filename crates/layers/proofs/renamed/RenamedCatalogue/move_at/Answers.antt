use Rattle.std.proofs.Common.{None, ◌∙◌, w8, SFits, rules}
use Rattle.renaming.proofs.Laws.{told_renamed}
use Rattle.catalogue.proofs.Layers.{renamed_at, renamed_found}
use Rattle.layers.proofs.renamed.RenamedCatalogue.move_at.Goals as goal

pub returns-in_err-found : goal.returns-in_err-found
returns-in_err-found g c = c.from_residual.ensures ∙ renamed_at c.args.self.now.renaming.entries (g.C.Catalogue.meaning c.args.self.now.inner) c.args.part c.args.code c.args.number None c.in_err-found.ensures

pub returns : goal.returns
returns g c =
    let f = c.args.self.now.renaming.entries in
    let found = c.in_ok-found.found in
    let fits : SFits w8 found.action = search rules in
    let back : SFits w8 c.apply.result = search rules in
    renamed_found f (g.C.Catalogue.meaning c.args.self.now.inner) c.args.part c.args.code c.args.number found _ (told_renamed f found.action c.apply.result fits back c.apply.ensures) c.in_ok-found.ensures
