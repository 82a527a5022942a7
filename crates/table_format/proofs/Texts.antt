-- A fault of a table that is not want of memory has a number in print. Assumes nothing.
use Rattle.std.proofs.Common.{◌≡◌, codes as ascii, decimal, unwrap_or, refl}
use Rattle.action.specs.Lists.{◌⧺◌}
use Rattle.table_format.specs.declared.fault.TableFault.{TableFault}
use Rattle.table_format.specs.declared.fault.TableFault.TheVariants.{NotVersionOne, PastEnd, WrongStateLength, LeftOver, TooManyModules, WrongStateCount, TooManyMoves, NotAnAction, NotAMark, NotAState, WrongTick, NoMemory}
use Rattle.table_format.specs.Taking.{number, place}
use Rattle.table_format.specs.Texts.{table_fault_text}

pub fault_told : (f : TableFault) → (f ≡ NoMemory → ⊥) → table_fault_text f ≡ decimal (unwrap_or (number f) 0) ⧺ ascii " " ⧺ decimal (place f)
fault_told NotVersionOne h = refl
fault_told (PastEnd i) h = refl
fault_told (WrongStateLength i) h = refl
fault_told (LeftOver i) h = refl
fault_told TooManyModules h = refl
fault_told (WrongStateCount i) h = refl
fault_told (TooManyMoves i) h = refl
fault_told (NotAnAction i) h = refl
fault_told (NotAMark i) h = refl
fault_told (NotAState i) h = refl
fault_told (WrongTick i) h = refl
fault_told NoMemory h = absurd (h refl)
