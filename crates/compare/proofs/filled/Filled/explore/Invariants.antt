use Rattle.std.proofs.Common.{◌-◌, ◌≤◌, length}
use Rattle.pair_table.specs.Pairs.{explored, most_rows}
use Rattle.compare.specs.Growth.{pairs_in}
use Rattle.compare.proofs.Growth.{Growing, left_at}
use Rattle.compare.proofs.filled.Filled.explore.Given as goal

abbrev pub invariant-loop-at : goal.invariant-loop-at
invariant-loop-at g l =
    (l.at ≤ l.self.count)
    × Growing l.initial.self l.self (left_at l.modules.new l.modules.old l.at) (explored l.modules.new l.modules.old most_rows 0 (pairs_in l.initial.self))

abbrev pub decreases-loop-at : goal.decreases-loop-at
decreases-loop-at g l = length l.initial.self.rows.now - l.at
