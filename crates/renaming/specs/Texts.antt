-- A fault of a renaming, in print. Assumes nothing.
use Rattle.std.specs.Prelude.{ℕ, List, decimal}
use Rattle.renaming.specs.declared.fault.RenamingFault.{RenamingFault}
use Rattle.renaming.specs.Faults.{number}

-- the number of the refusal
abbrev pub renaming_fault_text : RenamingFault → List ℕ
renaming_fault_text e = decimal (number e)
