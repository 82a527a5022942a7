-- A row of a pair table, and why two modules are not compared, in print. Assumes nothing.
use Rattle.std.specs.Prelude.{ℕ, List, codes as ascii, decimal}
use Rattle.action.specs.Lists.{◌⧺◌}
use Rattle.pair_table.specs.declared.PairRow.{PairRow}
use Rattle.pair_table.specs.declared.CompareFault.{CompareFault}
use Rattle.pair_table.specs.Tables.{refusal_number}

-- the number of the refusal
abbrev pub compare_fault_text : CompareFault → List ℕ
compare_fault_text e = decimal (refusal_number e)

-- the new state, the old one, and the rank: 3 2 0
abbrev pub row_text : PairRow → List ℕ
row_text r = decimal r.new ⧺ ascii " " ⧺ decimal r.old ⧺ ascii " " ⧺ decimal r.rank
