use Rattle.compare.proofs.Ranks.{Sofar}
use Rattle.compare.proofs.filled.Filled.unmatched.Given as goal

abbrev pub invariant-loop-b : goal.invariant-loop-b
invariant-loop-b l = Sofar l.self.rows.now l.self.count l.side l.a l.others l.b-index l.last l.limit
