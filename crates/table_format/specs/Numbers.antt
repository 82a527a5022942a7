-- Numbers in bytes, the higher byte first. Assumes nothing.
use Rattle.std.specs.Prelude.{ℕ, ◌+◌, ◌-◌, ◌*◌, ◌/◌, ◌%◌, ◌<◌, Bool, true, false, List, [], ◌∷◌, length, ℤ, pos, negsuc, Some, None, Option, nat_le, nat_lt, slice_index}

-- the byte at an offset; past the end 0
abbrev pub byte : List ℕ → ℕ → ℕ
byte b i = slice_index b i

-- the number in the two bytes at an offset
abbrev pub pair : List ℕ → ℕ → ℕ
pair b i = 256 * byte b i + byte b (i + 1)

-- the same, where both bytes are there
abbrev pub pair_in : List ℕ → ℕ → Option ℕ
pair_in b i = elim (nat_le (i + 2) (length b)) [ true ↦ Some (pair b i) | false ↦ None ]

-- Numbers of two bytes are below this.
abbrev pub two_byte_end : ℕ
two_byte_end = 65536

-- such a number as two bytes
abbrev pub two : ℕ → List ℕ
two n = n / 256 ∷ (n % 256 ∷ [])

-- a signed number as a byte, the negative ones from 255 down, and a byte as a signed number
abbrev pub action_byte : ℤ → ℕ
action_byte (pos n) = n
action_byte (negsuc n) = 255 - n

abbrev pub byte_action : ℕ → ℤ
byte_action x = elim (nat_lt x 128) [ true ↦ pos x | false ↦ negsuc (255 - x) ]

-- a mark as a byte
abbrev pub mark_byte : Bool → ℕ
mark_byte true = 1
mark_byte false = 0

-- every number of the list is a byte
abbrev pub Bytes : List ℕ → Type 0
Bytes b = (i : ℕ) → byte b i < 256
