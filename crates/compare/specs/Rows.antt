-- The rows of a table, and the pairs in them. Assumes nothing.
use Rattle.std.specs.Prelude.{◌≡◌, ℕ, ◌<◌, List, map, take}
use Rattle.pair_table.specs.declared.PairRow.{PairRow}
use Rattle.pair_table.specs.Pairs.{Pair, pair}
use Rattle.pair_table.specs.Laws.{row}

-- a row that holds a pair, with no rank yet
abbrev pub fresh : ℕ → ℕ → PairRow
fresh p q = record { new = p; old = q; rank = 0 }

abbrev pub pair_of : PairRow → Pair
pair_of r = pair r.new r.old

-- the pairs of the first n rows
abbrev pub pairs_of : ℕ → List PairRow → List Pair
pairs_of n rows = take n (map pair_of rows)

-- row i holds the pair of p and q
abbrev pub Is : List PairRow → ℕ → ℕ → ℕ → Type 0
Is rows i p q = ((row rows i).new ≡ p) × ((row rows i).old ≡ q)

-- none of the first n rows holds the pair
abbrev pub Absent : List PairRow → ℕ → ℕ → ℕ → Type 0
Absent rows n p q = (j : ℕ) → j < n → Is rows j p q → ⊥
