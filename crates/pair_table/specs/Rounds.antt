-- Rounds over the pairs of a table, and the rank of a pair. Assumes nothing.
use Rattle.std.specs.Prelude.{ℕ, zero, suc, Bool, true, false, not, ◌&&◌, List, length, Some, None, Option}
use Rattle.action.specs.Lists.{all, any, kept, first}
use Rattle.action.specs.Action.{same}
use Rattle.action.specs.Sets.{within}
use Rattle.catalogue.specs.declared.Move.{Move}
use Rattle.catalogue.specs.Catalogue.{Module, State, state}
use Rattle.pair_table.specs.Pairs.{Pair, among, starts, rows}

-- each of the moves is answered by another with the same action, and R holds the targets
abbrev pub answered : (ℕ → ℕ → Bool) → List Move → List Move → Bool
answered R mine others = all (λ (m : Move). any (λ (n : Move). same m.action n.action && R m.target n.target) others) mine

-- if p ticks, then every urgent action of q is urgent in p, q ticks, and R holds the tick targets
abbrev pub in_step : (ℕ → ℕ → Bool) → (p q : State) → Option ℕ → Option ℕ → Bool
in_step R p q None t = true
in_step R p q (Some p') None = false
in_step R p q (Some p') (Some q') = within q.urgent p.urgent && R p' q'

-- whether a pair keeps the three clauses of a strong faster-than relation with the pairs of a list
unfoldable pub keeps : Module → Module → List Pair → Pair → Bool
keeps new old now r =
    let p : State = state new r.new in
    let q : State = state old r.old in
    answered (among now) p.moves q.moves
    && (answered (λ y x. among now x y) q.moves p.moves && in_step (among now) p q p.tick q.tick)

unfoldable pub refined : Module → Module → List Pair → List Pair
refined new old now = kept (keeps new old now) now

-- Round 0 keeps all rows, and round k + 1 those of round k whose clauses hold with the rows of round k.
unfoldable pub round : Module → Module → List Pair → ℕ → List Pair
round new old pairs zero = pairs
round new old pairs (suc k) = refined new old (round new old pairs k)

-- The first round that drops a pair, or 0 where none does. A round that drops no row is the last that could, so there
-- are no more rounds to look at than rows.
unfoldable pub rank : Module → Module → List Pair → Pair → ℕ
rank new old pairs r = first (λ k. not (among (round new old pairs k) r.new r.old)) (length pairs) 1

-- the rank of the first row, the pair of starts
unfoldable pub first_rank : Module → Module → ℕ
first_rank new old = rank new old (rows new old) (starts new old)
