-- A fault of a table, in print. Assumes nothing.
use Rattle.std.specs.Prelude.{ℕ, List, Some, None, codes as ascii, decimal, Option}
use Rattle.action.specs.Lists.{◌⧺◌}
use Rattle.table_format.specs.declared.fault.TableFault.{TableFault}
use Rattle.table_format.specs.Taking.{number, place}

abbrev pub number_and_place : Option ℕ → ℕ → List ℕ
number_and_place (Some n) k = decimal n ⧺ ascii " " ⧺ decimal k
number_and_place None k = ascii "out of memory"

-- the number of the refusal and the offset that is told with it: 15 11
abbrev pub table_fault_text : TableFault → List ℕ
table_fault_text e = number_and_place (number e) (place e)
