use Rattle.std.proofs.Common.{◌+◌, List, map, None, sym, ap, ◌∙◌}
use Rattle.action.specs.Sets.{set_of}
use Rattle.catalogue.specs.Catalogue.{State}
use Rattle.table_format.specs.Numbers.{byte}
use Rattle.table_format.specs.Records.{MoveRecord, marked}
use Rattle.table_format.specs.Reading.{entry_record}
use Rattle.table_format.proofs.Entries.{entries_records}
use Rattle.maker_table.specs.Table.{written}
use Rattle.maker_table.proofs.Gather.{holds_none}
use Rattle.maker_table.proofs.Lookup.{told_state, told_record}
use Rattle.maker_table.proofs.table.asking.TableCatalogue.urgent.Goals as goal

pub returns-in-Some : goal.returns-in-Some
returns-in-Some c =
    let r = c.in-Some.state in
    c.marked_actions.ensures
    ∙ ap (λ (ms : List MoveRecord). set_of (marked ms)) (ap (map entry_record) c.moves.ensures ∙ entries_records r.bytes.now (byte r.bytes.now (r.at + 4)) (r.at + 5))
    ∙ sym (ap (λ (q : State). q.urgent) (told_record c.args.self.now c.args.part c.args.code r.bytes.now r.at c.in-Some.ensures.0 c.in-Some.ensures.1))

pub returns-in-None : goal.returns-in-None
returns-in-None c = holds_none c.empty.result c.empty.ensures ∙ sym (ap (λ (q : State). q.urgent) (told_state (written c.args.self.now) c.args.part c.args.code None (sym c.in-None.ensures)))
