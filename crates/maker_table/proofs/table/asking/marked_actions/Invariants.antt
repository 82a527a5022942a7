use Rattle.std.proofs.Common.{map, drop}
use Rattle.table_format.specs.Reading.{entry_record}
use Rattle.maker_table.proofs.Gather.{Gathering}
use Rattle.maker_table.proofs.table.asking.marked_actions.Given as goal

abbrev pub invariant-loop-action : goal.invariant-loop-action
invariant-loop-action l = Gathering l.set (map entry_record (drop l.action-index l.moves)) (map entry_record l.moves)
