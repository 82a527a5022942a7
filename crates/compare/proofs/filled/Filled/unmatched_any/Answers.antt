use Rattle.std.proofs.Common.{pos}
use Rattle.compare.proofs.Ranks.{judged_more}
use Rattle.compare.proofs.filled.Filled.unmatched_any.Goals as goal

pub loop-a-preserved : goal.loop-a-preserved
loop-a-preserved c =
    judged_more c.args.self.now.rows.now c.args.self.now.count c.args.side c.args.mine.now c.args.others.now c.loop-a.a-index c.args.limit c.loop-a.first c.unmatched-first.result (record { action = pos 0; target = 0 })
    c.loop-a-test.true c.unmatched-first.ensures c.loop-a.invariant
