-- What adding pairs to the rows does. Assumes nothing.
use Rattle.std.specs.Prelude.{◌≡◌, ℕ, ◌<◌, ◌≤◌, List, length, take, drop, Result, MatchResult, ⊤}
use Rattle.pair_table.specs.declared.PairRow.{PairRow}
use Rattle.pair_table.specs.declared.CompareFault.{CompareFault}
use Rattle.pair_table.specs.declared.CompareFault.TheVariants.{TableTooSmall}
use Rattle.pair_table.specs.Pairs.{Pair}
use Rattle.pair_table.specs.Tables.{room}
use Rattle.pair_table.specs.Laws.{row}
use Rattle.compare.specs.declared.filled.Filled.{Filled}
use Rattle.compare.specs.Rows.{pairs_of}

-- the pairs of the rows that are filled
abbrev pub pairs_in : Filled → List Pair
pairs_in f = pairs_of f.count f.rows.now

-- how many rows can be filled
abbrev pub room_of : Filled → ℕ
room_of f = room (length f.rows.now)

-- the first n rows have no rank
abbrev pub Unranked : List PairRow → ℕ → Type 0
Unranked rows n = (j : ℕ) → j < n → (row rows j).rank ≡ 0

-- the filled rows hold the wanted pairs, and the others are as they were
pub record Grew (before after : Filled) (wanted : List Pair) : Type 0 where
  pub same_reference : after.rows.ghost_name ≡ before.rows.ghost_name
  pub unranked : Unranked before.rows.now before.count → Unranked after.rows.now after.count
  pub more : before.count ≤ after.count
  pub long : length after.rows.now ≡ length before.rows.now
  pub rows : pairs_in after ≡ wanted
  pub rest : drop after.count after.rows.now ≡ drop after.count before.rows.now

-- the wanted pairs pass the table, whose first rows hold the first of them
pub record Full (before after : Filled) (wanted : List Pair) (e : CompareFault) : Type 0 where
  pub same_reference : after.rows.ghost_name ≡ before.rows.ghost_name
  pub why : e ≡ TableTooSmall
  pub over : room_of before < length wanted
  pub unranked : Unranked before.rows.now before.count → Unranked after.rows.now (room_of before)
  pub long : length after.rows.now ≡ length before.rows.now
  pub rows : pairs_of (room_of before) after.rows.now ≡ take (room_of before) wanted
  pub rest : drop (room_of before) after.rows.now ≡ drop (room_of before) before.rows.now

-- the one where pairs are added, the other where they are refused
abbrev pub Grows : Filled → Filled → List Pair → Result ⊤ CompareFault → Type 0
Grows before after wanted r = MatchResult r (λ _. Grew before after wanted) (λ e. Full before after wanted e)
