use Rattle.std.proofs.Common.{take}
use Rattle.compare.specs.Ranks.{JudgedAll}
use Rattle.compare.proofs.filled.Filled.unmatched_any.Given as goal

abbrev pub invariant-loop-a : goal.invariant-loop-a
invariant-loop-a l = JudgedAll l.self.rows.now l.self.count l.side (take l.a-index l.mine) l.mine l.others l.limit l.first
