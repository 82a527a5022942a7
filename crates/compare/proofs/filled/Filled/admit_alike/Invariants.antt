use Rattle.action.specs.Lists.{each}
use Rattle.pair_table.specs.Pairs.{added, alike}
use Rattle.compare.specs.Growth.{pairs_in}
use Rattle.compare.proofs.Growth.{Growing, alike_left}
use Rattle.compare.proofs.filled.Filled.admit_alike.Given as goal

abbrev pub invariant-loop-b : goal.invariant-loop-b
invariant-loop-b l =
    Growing l.initial.self l.self (alike_left l.a l.olds l.b-index) (added (pairs_in l.initial.self) (each (alike l.a) l.olds))
