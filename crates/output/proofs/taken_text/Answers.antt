use Rattle.std.proofs.Common.{◌≡◌, ◌≤◌, List, length, take, ap, ◌∙◌, arith, length-take, rules}
use Rattle.catalogue.specs.Catalogue.{Catalogue}
use Rattle.rows.specs.declared.row.Place.{Place}
use Rattle.rows.specs.declared.row.ModuleRow.{ModuleRow}
use Rattle.rows.specs.Opening.{opened}
use Rattle.maker_table.specs.Table.{written}
use Rattle.output.proofs.Modules.{opened_few, taken_few}
use Rattle.output.proofs.taken_text.Goals as goal

pub answer_text-requires : goal.answer_text-requires
answer_text-requires c =
    let ps : List Place = take c.args.taken.places c.args.rows.now.places.items in
    let ms : List ModuleRow = take c.args.taken.modules c.args.rows.now.modules.items in
    let book : Catalogue = opened ps ms in
    let few : length ms ≤ 64 = omega (arith, length-take c.args.taken.modules c.args.rows.now.modules.items, c.requires.modules, c.args.rows.now.modules_len) in
    let same : opened c.over-book.result.places.now c.over-book.result.modules.now ≡ book = search rules in
    record {
      all_fit = omega (arith, few, opened_few ps ms, taken_few (written c.args.taken.table) c.args.taken.table.fine, ap length (c.new-both.ensures.front ∙ same), ap length c.new-both.ensures.back);
    }
