use Rattle.std.proofs.Common.{refl, ap, sym, ◌∙◌}
use Rattle.catalogue.specs.Catalogue.{Catalogue}
use Rattle.rows.specs.Opening.{opened}
use Rattle.table_format.specs.Reading.{meaning}
use Rattle.maker_table.specs.Table.{written}
use Rattle.output.specs.declared.Request.{Request}
use Rattle.output.specs.Output.{asked_of}
use Rattle.output.proofs.Modules.{as_joined, text_as}
use Rattle.output.proofs.answer_text.Goals as goal

pub returns-in-Modules : goal.returns-in-Modules
returns-in-Modules c =
    let book : Catalogue = opened c.args.both.now.front.places.now c.args.both.now.front.modules.now in
    let table : Catalogue = meaning (written c.args.both.now.back) in
    text_as c.format.result _ _ (as_joined book book table table refl refl c.requires.all_fit ∙ ap (λ (q : Request). asked_of q book table) (sym c.in-Modules.is)) c.format.ensures.ok
