use Rattle.std.proofs.Common.{◌≡◌, ℕ, ◌-◌, ◌<◌, ◌≤◌}
use Rattle.compare.specs.Rows.{Is}
use Rattle.compare.specs.Indexed.{bucket_of, row_bucket}
use Rattle.compare.proofs.filled.Filled.find.Given as goal

abbrev pub invariant-loop-row : goal.invariant-loop-row
invariant-loop-row l =
    (l.link ≤ l.self.count)
    × (0 < l.link → row_bucket l.self.index.now.spread l.self.rows.now (l.link - 1) ≡ bucket_of l.self.index.now.spread l.new l.old)
    × ((j : ℕ) → l.link ≤ j → j < l.self.count → Is l.self.rows.now j l.new l.old → ⊥)

abbrev pub decreases-loop-row : goal.decreases-loop-row
decreases-loop-row l = l.link
