-- The number of each fault of rows, and the module and place that it tells. Assumes nothing.
use Rattle.std.specs.Prelude.{ℕ}
use Rattle.rows.specs.declared.fault.RowsFault.{RowsFault}
use Rattle.rows.specs.declared.fault.RowsFault.TheVariants.{ManyModules, ManyPlaces, BeyondRows, NoStart, Outside, NoAction, Unguarded, Deep, ManyMoves}

abbrev pub refusal_number : RowsFault → ℕ
refusal_number (ManyModules m) = 7
refusal_number (ManyPlaces m) = 7
refusal_number (BeyondRows m) = 7
refusal_number (NoStart m) = 6
refusal_number (Outside m i) = 6
refusal_number (NoAction m i) = 3
refusal_number (Unguarded m i) = 8
refusal_number (Deep m i) = 9
refusal_number (ManyMoves m i) = 10

abbrev pub part_of : RowsFault → ℕ
part_of (ManyModules m) = m
part_of (ManyPlaces m) = m
part_of (BeyondRows m) = m
part_of (NoStart m) = m
part_of (Outside m i) = m
part_of (NoAction m i) = m
part_of (Unguarded m i) = m
part_of (Deep m i) = m
part_of (ManyMoves m i) = m

-- place 0 where the fault is none of a place
abbrev pub place_of : RowsFault → ℕ
place_of (ManyModules m) = 0
place_of (ManyPlaces m) = 0
place_of (BeyondRows m) = 0
place_of (NoStart m) = 0
place_of (Outside m i) = i
place_of (NoAction m i) = i
place_of (Unguarded m i) = i
place_of (Deep m i) = i
place_of (ManyMoves m i) = i
