-- A fault of rows, in print. Assumes nothing.
use Rattle.std.specs.Prelude.{ℕ, List, codes as ascii, decimal}
use Rattle.action.specs.Lists.{◌⧺◌}
use Rattle.rows.specs.declared.fault.RowsFault.{RowsFault}
use Rattle.rows.specs.Faults.{refusal_number, part_of, place_of}

-- the number of the refusal, the module and the place: 8 0 3
abbrev pub rows_fault_text : RowsFault → List ℕ
rows_fault_text e = decimal (refusal_number e) ⧺ ascii " " ⧺ decimal (part_of e) ⧺ ascii " " ⧺ decimal (place_of e)
