-- The bytes that a table was taken from, and what taking answers. Assumes nothing.
use Rattle.std.specs.Prelude.{◌≡◌, ℕ, ◌⊎◌, List, Some, None, Ok, Err, vec_items, Result}
use Rattle.table_format.specs.declared.fault.TableFault.{TableFault}
use Rattle.table_format.specs.declared.fault.TableFault.TheVariants.{NoMemory}
use Rattle.table_format.specs.Taking.{fault}
use Rattle.maker_table.specs.declared.table.Table.{Table}

abbrev pub written : Table → List ℕ
written t = vec_items t.bytes

-- The bytes b are taken, and the table is theirs; or they are refused with their fault; or they have none, and there was no memory.
abbrev pub Answered : List ℕ → Result Table TableFault → Type 0
Answered b (Ok t) = (fault b ≡ None) × (written t ≡ b)
Answered b (Err f) = (fault b ≡ Some f) ⊎ ((f ≡ NoMemory) × (fault b ≡ None))
