-- What the operations on what is open do. Assumes nothing.
use Rattle.std.specs.Prelude.{ℕ, zero, suc, ◌+◌, ◌-◌, List, [], ◌∷◌, ◌++◌, length, slice_set}
use Rattle.rows.specs.declared.row.Place.{Place}
use Rattle.rows.specs.declared.row.Place.TheVariants.{Act, Wait, Sum}
use Rattle.book_text.specs.declared.parser.Stack.{Stack}
use Rattle.book_text.specs.declared.parser.Open.{Open}
use Rattle.book_text.specs.declared.parser.Open.TheVariants.{Waiting, Acting, Adding}
use Rattle.arrayvec.specs.ArrayVec.{array_vec_len}
use Rattle.book_text.specs.Parsers.{op_at, floor_of}

-- how many ops are open around the innermost parenthesis
abbrev pub floor : Stack → ℕ
floor s = floor_of s.floors.items (array_vec_len s.floors)

-- how many ops wait for the term at hand
abbrev pub waiting_on : Stack → ℕ
waiting_on s = s.pending - floor s

-- one more op
abbrev pub pushed : Stack → Open → Stack
pushed s o = record { ops = slice_set s.ops s.pending o; pending = s.pending + 1; floors = s.floors }

-- what an op becomes with the place that follows it
abbrev pub place_for : Open → ℕ → Place
place_for Waiting k = Wait k
place_for (Acting a) k = Act a k
place_for (Adding j) k = Sum j k

-- the rows once the n ops from number `low` on are complete, the last one first
abbrev pub closed_rows : List Open → ℕ → ℕ → List Place → List Place
closed_rows ops low zero rows = rows
closed_rows ops low (suc n) rows = closed_rows ops low n (rows ++ place_for (op_at ops (low + n)) (length rows - 1) ∷ [])
