-- Pairs of a new and an old state, and the rows of the pair table in their order. Assumes nothing.
use Rattle.std.specs.Prelude.{ℕ, zero, suc, Bool, true, false, ◌&&◌, List, [], ◌∷◌, ◌++◌, length, Some, None, Option, ◌==◌, nat_lt, slice_index_or}
use Rattle.action.specs.Lists.{any, each}
use Rattle.action.specs.Action.{same}
use Rattle.catalogue.specs.declared.Move.{Move}
use Rattle.catalogue.specs.Catalogue.{Module, State, state}

-- The most rows that a table is filled to.
abbrev pub most_rows : ℕ
most_rows = 32768

-- A code of the new module beside one of the old module.
pub record Pair : Type 0 where
  pub new : ℕ
  pub old : ℕ

abbrev pub pair : ℕ → ℕ → Pair
pair p q = record { new = p; old = q }

-- the pair of the starts
abbrev pub starts : Module → Module → Pair
starts new old = pair new.start old.start

-- whether p and q are one of the pairs
abbrev pub among : List Pair → ℕ → ℕ → Bool
among pairs p q = any (λ (r : Pair). (p == r.new) && q == r.old) pairs

-- The pairs that a pair leads to: for each move of p in order each move of q in order by the same action the targets,
-- then the tick targets where both tick.
abbrev pub both_tick : Option ℕ → Option ℕ → List Pair
both_tick None t = []
both_tick (Some p) None = []
both_tick (Some p) (Some q) = pair p q ∷ []

abbrev pub alike : Move → Move → List Pair
alike m n = elim (same m.action n.action) [ true ↦ pair m.target n.target ∷ [] | false ↦ [] ]

abbrev pub by_moves : List Move → List Move → List Pair
by_moves news olds = each (λ (m : Move). each (alike m) olds) news

unfoldable pub leads_to : Module → Module → Pair → List Pair
leads_to new old r =
    let p : State = state new r.new in
    let q : State = state old r.old in
    by_moves p.moves q.moves ++ both_tick p.tick q.tick

-- the rows, and behind them those pairs of a list that are not there yet, in order, each once
abbrev pub added : List Pair → List Pair → List Pair
added rows [] = rows
added rows (x ∷ xs) = added (elim (among rows x.new x.old) [ true ↦ rows | false ↦ rows ++ (x ∷ []) ]) xs

-- Rows are taken from the front, and each adds the pairs that it leads to. Row i is the next, and at most n more are taken.
unfoldable pub explored : Module → Module → (n i : ℕ) → List Pair → List Pair
explored new old zero i found = found
explored new old (suc n) i found =
    elim (nat_lt i (length found)) [ true ↦ explored new old n (suc i) (added found (leads_to new old (slice_index_or found i (pair 0 0)))) | false ↦ found ]

-- The rows. At most `most_rows` are taken: where that is not all of them, there are more than `most_rows`.
unfoldable pub rows : Module → Module → List Pair
rows new old = explored new old most_rows 0 (starts new old ∷ [])

unfoldable pub pair_count : Module → Module → ℕ
pair_count new old = length (rows new old)
