-- What an index of the first n rows holds. Assumes nothing.
use Rattle.std.specs.Prelude.{◌≡◌, ℕ, ◌+◌, ◌-◌, ◌*◌, ◌%◌, ◌<◌, ◌≤◌, List, length, ◌≢◌, Option, Some, None, true, cond, ◌==◌, nat_lt, slice_index}
use Rattle.pair_table.specs.declared.PairRow.{PairRow}
use Rattle.pair_table.specs.Pairs.{most_rows}
use Rattle.pair_table.specs.Laws.{row}
use Rattle.compare.specs.declared.index.Index.{Index}

-- How many slots apart neighbouring new states lie: as many as there are old states, where then no two pairs of states share a
-- bucket; otherwise a number with which the pairs that are met mostly do not.
abbrev pub spread_of : ℕ → ℕ → ℕ
spread_of news olds = cond (nat_lt most_rows (news * olds)) 181 olds

-- the slot of a pair, and its bucket
unfoldable pub slot_of : ℕ → ℕ → ℕ → ℕ
slot_of spread p q = p * spread + q

unfoldable pub bucket_of : ℕ → ℕ → ℕ → ℕ
bucket_of spread p q = slot_of spread p q % most_rows

-- a pair that shares its bucket with no other such pair
abbrev pub Alone : ℕ → ℕ → ℕ → Type 0
Alone spread p q = (q < spread) × (slot_of spread p q < most_rows)

-- the row that a link leads to: a link is one more than the number of a row, or 0
abbrev pub row_at : ℕ → Option ℕ
row_at link = cond (link == 0) None (Some (link - 1))

-- the bucket of row i
abbrev pub row_bucket : ℕ → List PairRow → ℕ → ℕ
row_bucket spread rows i = bucket_of spread (row rows i).new (row rows i).old

-- the link is one more than the last of the first n rows in the bucket, or 0 where there is none
pub record Last (spread : ℕ) (rows : List PairRow) (bucket n link : ℕ) : Type 0 where
  pub within : link ≤ n
  pub hits : 0 < link → row_bucket spread rows (link - 1) ≡ bucket
  pub skips : (j : ℕ) → link ≤ j → j < n → row_bucket spread rows j ≢ bucket

-- no pair has two of the first n rows
abbrev pub Apart : List PairRow → ℕ → Type 0
Apart rows n = (i j : ℕ) → i < n → j < n → (row rows i).new ≡ (row rows j).new → (row rows i).old ≡ (row rows j).old → i ≡ j

-- each bucket has its last row, and each row the last one before it in its bucket; where the index is exact, a bucket has at
-- most one row
pub record Indexed (index : Index) (rows : List PairRow) (n : ℕ) : Type 0 where
  pub heads : (b : ℕ) → b < most_rows → Last index.spread rows b n (slice_index index.heads b)
  pub nexts : (i : ℕ) → i < n → Last index.spread rows (row_bucket index.spread rows i) i (slice_index index.next i)
  pub buckets : length index.heads ≡ most_rows
  pub links : length index.next ≡ most_rows
  pub within : n ≤ length rows
  pub few : n ≤ most_rows
  pub apart : Apart rows n
  pub exact : index.exact ≡ true → (i : ℕ) → i < n → Alone index.spread (row rows i).new (row rows i).old
