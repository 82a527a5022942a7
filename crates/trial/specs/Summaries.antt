-- The summary of a place: what opening works out of it and keeps. Assumes nothing.
use Rattle.std.specs.Prelude.{◌≡◌, ℕ, suc, ◌+◌, ◌<◌, min, max, true, false, ◌&&◌, List, length, slice_index_or}
use Rattle.catalogue.specs.Catalogue.{most_moves}
use Rattle.rows.specs.declared.row.Place.{Place}
use Rattle.rows.specs.declared.row.Place.TheVariants.{Nil, Act, Wait, Sum, Name}
use Rattle.rows.specs.Places.{ages, ends, depth, moves}
use Rattle.trial.specs.declared.summary.Summary.{Summary}

abbrev pub unknown : Summary
unknown = record { guarded = false; depth = 0; moves = 0 }

-- A depth is cut at 16 and a number of moves at 65: beyond that they are refused anyway.
abbrev pub summary_by : Place → (ℕ → Summary) → Summary
summary_by Nil s = record { guarded = true; depth = 0; moves = 0 }
summary_by (Act a j) s = record { guarded = true; depth = 0; moves = 1 }
summary_by (Wait j) s = record { guarded = (s j).guarded; depth = min ages (suc (s j).depth); moves = (s j).moves }
summary_by (Sum l r) s = record { guarded = (s l).guarded && (s r).guarded; depth = max (s l).depth (s r).depth; moves = min (suc most_moves) ((s l).moves + (s r).moves) }
summary_by (Name j) s = s j

-- the summary of place i, followed through at most f places
abbrev pub summary : List Place → ℕ → ℕ → Summary
summary ps f i = record { guarded = ends ps f i; depth = min ages (depth ps f i); moves = min (suc most_moves) (length (moves ps f i)) }

-- a list of them, for each place
abbrev pub Summarizes : List Place → ℕ → List Summary → Type 0
Summarizes ps f ss = (i : ℕ) → i < length ps → slice_index_or ss i unknown ≡ summary ps f i
