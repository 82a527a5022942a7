use Rattle.std.proofs.Common.{◌≡◌}
use Rattle.compare.specs.Growth.{pairs_in}
use Rattle.compare.specs.Ranks.{Alike, DoneTo, Fair, weight}
use Rattle.compare.proofs.filled.Filled.settle.Given as goal

abbrev pub invariant-loop-least : goal.invariant-loop-least
invariant-loop-least g l =
    (l.self.rows.ghost_name ≡ l.initial.self.rows.ghost_name)
    × (l.self.count ≡ l.initial.self.count)
    × Fair l.modules.new l.modules.old (pairs_in l.initial.self) l.self.rows.now l.self.count
    × DoneTo l.modules.new l.modules.old (pairs_in l.initial.self) l.self.rows.now l.self.count l.done
    × Alike l.initial.self.rows.now l.self.rows.now l.initial.self.count

abbrev pub decreases-loop-least : goal.decreases-loop-least
decreases-loop-least g l = weight l.self.rows.now l.self.count
