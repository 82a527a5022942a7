-- The offsets of a table's records. Assumes nothing.
use Rattle.std.specs.Prelude.{ℕ, zero, suc, ◌+◌, ◌≤◌, List, map, length, Some, None, vec_items, Option}
use Rattle.action.specs.Lists.{nth}
use Rattle.table_format.specs.Numbers.{pair}
use Rattle.table_format.specs.Reading.{after, offsets, codes_at}
use Rattle.maker_table.specs.declared.index.ModulePlace.{ModulePlace}

-- n records, one after the other from i on, begin in the bytes, each with its length
abbrev pub Lengths : List ℕ → ℕ → ℕ → Type 0
Lengths b zero i = Unit {0}
Lengths b (suc n) i = (i + 2 ≤ length b) × Lengths b n (after b i)

-- the offset of the module at m, and those of its states; of all modules
abbrev pub place_at : List ℕ → ℕ → ℕ × List ℕ
place_at b m = (m, offsets b (codes_at b m) (m + 6))

abbrev pub places : List ℕ → List (ℕ × List ℕ)
places b = map (place_at b) (offsets b (pair b 1) 3)

-- the same, as the table holds them
abbrev pub shown : ModulePlace → ℕ × List ℕ
shown p = (p.at, vec_items p.states)

-- the offset of a module's record, and of a state's record in it, where they are there
abbrev pub module_offset : List ℕ → ℕ → Option ℕ
module_offset b m = nth (offsets b (pair b 1) 3) m

abbrev pub state_offset_in : List ℕ → ℕ → Option ℕ → Option ℕ
state_offset_in b c None = None
state_offset_in b c (Some i) = nth (offsets b (codes_at b i) (i + 6)) c

abbrev pub state_offset : List ℕ → ℕ → ℕ → Option ℕ
state_offset b m c = state_offset_in b c (module_offset b m)
