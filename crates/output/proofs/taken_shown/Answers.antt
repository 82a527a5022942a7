use Rattle.std.proofs.Common.{◌≡◌, ◌≤◌, List, length, take, ap, sym, ◌∙◌, arith, length-take, rules}
use Rattle.catalogue.specs.Catalogue.{Catalogue}
use Rattle.rows.specs.declared.row.Place.{Place}
use Rattle.rows.specs.declared.row.ModuleRow.{ModuleRow}
use Rattle.rows.specs.Opening.{opened}
use Rattle.table_format.specs.Reading.{meaning}
use Rattle.maker_table.specs.Table.{written}
use Rattle.output.specs.declared.Request.{Request}
use Rattle.output.specs.Output.{asked_of}
use Rattle.output.proofs.Modules.{as_joined, opened_few, taken_few}
use Rattle.output.proofs.taken_shown.Goals as goal

pub returns-in-Modules : goal.returns-in-Modules
returns-in-Modules c =
    let ps : List Place = take c.args.taken.places c.args.rows.now.places.items in
    let ms : List ModuleRow = take c.args.taken.modules c.args.rows.now.modules.items in
    let book : Catalogue = opened ps ms in
    let table : Catalogue = meaning (written c.args.taken.table) in
    let few : length ms ≤ 64 = omega (arith, length-take c.args.taken.modules c.args.rows.now.modules.items, c.requires.modules, c.args.rows.now.modules_len) in
    let same : opened c.over-book.result.places.now c.over-book.result.modules.now ≡ book = search rules in
    as_joined _ book _ table (c.new.ensures.front ∙ same) c.new.ensures.back (omega (arith, few, opened_few ps ms, taken_few (written c.args.taken.table) c.args.taken.table.fine))
    ∙ ap (λ (q : Request). asked_of q book table) (sym c.in-Modules.is)
