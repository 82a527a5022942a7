-- Making a renaming: what is wrong with a list of entries, and which lists are taken. Assumes nothing.
use Rattle.std.specs.Prelude.{◌≡◌, ℕ, ◌<◌, ◌≤◌, true, false, ◌≢◌, ◌↔◌, List, length, ℤ, Some, None, Ok, Err, Option, Result, ◌==◌, slice_index_or, unsigned_abs}
use Rattle.action.specs.Action.{internal, last_port}
use Rattle.renaming.specs.declared.fault.RenamingFault.{RenamingFault}
use Rattle.renaming.specs.declared.fault.RenamingFault.TheVariants.{Length, Entry, Shared}
use Rattle.renaming.specs.declared.renaming.Renaming.{Renaming}
use Rattle.renaming.specs.Renaming.{first_wrong, first_shared}

-- the number that is told of a fault
abbrev pub number : RenamingFault → ℕ
number (Length n) = 16
number (Entry i) = 16
number (Shared i) = 17

abbrev pub entry_fault : Option ℕ → Option ℕ → Option RenamingFault
entry_fault (Some i) o = Some (Entry i)
entry_fault None (Some i) = Some (Shared i)
entry_fault None None = None

-- The fault of a list of entries: its length, then the whole list for entries that are no signals, then for shared ports.
unfoldable pub fault : List ℤ → Option RenamingFault
fault f = elim (length f == last_port) [ true ↦ entry_fault (first_wrong f) (first_shared f) | false ↦ Some (Length (length f)) ]

-- The answer to a list of entries: the renaming with just these, or their fault.
abbrev pub Made : List ℤ → Result Renaming RenamingFault → Type 0
Made f (Ok r) = (fault f ≡ None) × (r.entries ≡ f)
Made f (Err e) = fault f ≡ Some e

-- A list that gives each port an action other than the internal event, and different ports different ports.
pub record Wires (f : List ℤ) : Type 0 where
  pub each : length f ≡ last_port
  pub signals : (n : ℕ) → n < last_port → (slice_index_or f n internal ≢ internal) × (unsigned_abs (slice_index_or f n internal) ≤ last_port)
  pub apart : (m n : ℕ) → m < last_port → n < last_port → unsigned_abs (slice_index_or f m internal) ≡ unsigned_abs (slice_index_or f n internal) → m ≡ n

-- Just such lists have no fault.
pub record LawOf (f : List ℤ) : Type 0 where
  pub taken : (fault f ≡ None) ↔ Wires f
