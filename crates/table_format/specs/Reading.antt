-- What stands in the bytes of a table, by offset. Said of any bytes; it is what they mean where they are taken. Assumes nothing.
use Rattle.std.specs.Prelude.{ℕ, zero, suc, ◌+◌, ◌*◌, ◌≤◌, Bool, true, false, ◌&&◌, List, [], ◌∷◌, map, length, Some, None, Option, ◌==◌, nat_le}
use Rattle.catalogue.specs.Catalogue.{Catalogue}
use Rattle.table_format.specs.Numbers.{byte, pair, byte_action}
use Rattle.table_format.specs.Encoding.{no_tick}
use Rattle.table_format.specs.Records.{MoveRecord, StateRecord, ModuleRecord, meant_module}

-- the offset behind the record at an offset, by its length
abbrev pub after : List ℕ → ℕ → ℕ
after b i = i + 2 + pair b i

-- the same, where the length is there
abbrev pub after_in : List ℕ → ℕ → Option ℕ
after_in b i = elim (nat_le (i + 2) (length b)) [ true ↦ Some (after b i) | false ↦ None ]

-- the offsets of n records, one after the other from i on
abbrev pub offsets : List ℕ → ℕ → ℕ → List ℕ
offsets b zero i = []
offsets b (suc n) i = i ∷ offsets b n (after b i)

-- the record of the move at k; of n moves from k on
abbrev pub move_record : List ℕ → ℕ → MoveRecord
move_record b k = record { action = byte_action (byte b k); urgent = (byte b (k + 1) == 1); target = pair b (k + 2) }

abbrev pub move_records : List ℕ → ℕ → ℕ → List MoveRecord
move_records b zero k = []
move_records b (suc n) k = move_record b k ∷ move_records b n (k + 4)

-- the four bytes of the move at k; of n moves from k on
abbrev pub entry : List ℕ → ℕ → List ℕ
entry b k = byte b k ∷ byte b (k + 1) ∷ byte b (k + 2) ∷ byte b (k + 3) ∷ []

abbrev pub entries : List ℕ → ℕ → ℕ → List (List ℕ)
entries b zero k = []
entries b (suc n) k = entry b k ∷ entries b n (k + 4)

-- what such bytes say
abbrev pub entry_record : List ℕ → MoveRecord
entry_record e = move_record e 0

-- they are those of an internal move that is marked urgent
abbrev pub marks_internal : List ℕ → Bool
marks_internal e = byte e 1 == 1 && byte e 0 == 0

abbrev pub tick_of : ℕ → Option ℕ
tick_of t = elim (t == no_tick) [ true ↦ None | false ↦ Some t ]

-- the record of the state at s
abbrev pub state_record : List ℕ → ℕ → StateRecord
state_record b s = record { tick = tick_of (pair b (s + 2)); moves = move_records b (byte b (s + 4)) (s + 5) }

-- the record of the state at s lies in the bytes
abbrev pub Whole : List ℕ → ℕ → Type 0
Whole b s = s + 5 + 4 * byte b (s + 4) ≤ length b

-- how many states the module at m has, and its record
abbrev pub codes_at : List ℕ → ℕ → ℕ
codes_at b m = pair b (m + 2)

abbrev pub module_record : List ℕ → ℕ → ModuleRecord
module_record b m = record { start = pair b (m + 4); states = map (state_record b) (offsets b (codes_at b m) (m + 6)) }

-- what is written, and what it means
abbrev pub module_records : List ℕ → List ModuleRecord
module_records b = map (module_record b) (offsets b (pair b 1) 3)

abbrev pub meaning : List ℕ → Catalogue
meaning b = map meant_module (module_records b)
