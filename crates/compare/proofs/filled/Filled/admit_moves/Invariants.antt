use Rattle.pair_table.specs.Pairs.{added, by_moves}
use Rattle.compare.specs.Growth.{pairs_in}
use Rattle.compare.proofs.Growth.{Growing, moves_left}
use Rattle.compare.proofs.filled.Filled.admit_moves.Given as goal

abbrev pub invariant-loop-a : goal.invariant-loop-a
invariant-loop-a l =
    Growing l.initial.self l.self (moves_left l.news l.olds l.a-index) (added (pairs_in l.initial.self) (by_moves l.news l.olds))
