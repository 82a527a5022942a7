use Rattle.std.proofs.Common.{◌≡◌, ◌-◌, ◌++◌, vec_items}
use Rattle.table_format.specs.Reading.{offsets}
use Rattle.maker_table.specs.Index.{Lengths}
use Rattle.maker_table.proofs.index.offsets.Given as goal

abbrev pub invariant-loop : goal.invariant-loop
invariant-loop l = record {
  begin : Lengths l.bytes (l.count - l.counter) l.at;
  listed : vec_items l.found ++ offsets l.bytes (l.count - l.counter) l.at ≡ offsets l.bytes l.count l.from;
}
