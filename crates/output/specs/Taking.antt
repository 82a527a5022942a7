-- What the taking of the two files answers. Assumes nothing.
use Rattle.std.specs.Prelude.{◌≡◌, ℕ, ◌≤◌, ◌⊎◌, List, length, take, Ok, Err, Result}
use Rattle.catalogue.specs.Catalogue.{Catalogue}
use Rattle.rows.specs.declared.row.Place.{Place}
use Rattle.rows.specs.declared.row.ModuleRow.{ModuleRow}
use Rattle.rows.specs.Opening.{opened}
use Rattle.table_format.specs.declared.fault.TableFault.TheVariants.{NoMemory}
use Rattle.table_format.specs.Reading.{meaning}
use Rattle.maker_table.specs.Table.{written}
use Rattle.output.specs.declared.Taken.{Taken}
use Rattle.output.specs.declared.FileFault.{FileFault}
use Rattle.output.specs.declared.FileFault.TheVariants.{Table}
use Rattle.output.specs.Output.{file_fault_line, shown}

-- what the files mean is the book in the first rows, and the table
pub record Took (book table : List ℕ) (places : List Place) (modules : List ModuleRow) (t : Taken) : Type 0 where
  pub places_used : t.places ≤ length places
  pub modules_used : t.modules ≤ length modules
  pub means : (show : Catalogue → Catalogue → List ℕ) → show (opened (take t.places places) (take t.modules modules)) (meaning (written t.table)) ≡ shown show book table

-- or the fault is what is shown, unless it is want of memory
abbrev pub Takes : (book table : List ℕ) → List Place → List ModuleRow → Result Taken FileFault → Type 0
Takes book table places modules (Ok t) = Took book table places modules t
Takes book table places modules (Err e) = (e ≡ Table NoMemory) ⊎ ((show : Catalogue → Catalogue → List ℕ) → file_fault_line e ≡ shown show book table)
