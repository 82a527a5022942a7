use Rattle.std.proofs.Common.{◌≡◌}
use Rattle.compare.specs.Growth.{pairs_in}
use Rattle.compare.specs.Ranks.{Swept}
use Rattle.compare.proofs.filled.Filled.sweep.Given as goal

abbrev pub invariant-loop-i : goal.invariant-loop-i
invariant-loop-i g l =
    (l.self.rows.ghost_name ≡ l.initial.self.rows.ghost_name)
    × (l.self.count ≡ l.initial.self.count)
    × Swept l.modules.new l.modules.old (pairs_in l.initial.self) l.initial.self.rows.now l.self.rows.now l.self.count l.done l.i l.least
