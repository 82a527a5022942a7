use Rattle.std.proofs.Common.{pos}
use Rattle.std.proofs.lemmas.Result.{err_from_is_err_and}
use Rattle.compare.proofs.Growth.{moves_step, moves_full}
use Rattle.compare.proofs.filled.Filled.admit_moves.Goals as goal

pub loop-a-preserved : goal.loop-a-preserved
loop-a-preserved c =
    moves_step c.args.self.now c.loop-a.self c.admit_alike.new.self c.args.news.now c.args.olds.now c.loop-a.a-index (record { action = pos 0; target = 0 }) _
    c.loop-a-test.true c.loop-a.invariant c.in_ok-admit_alike.ensures

pub returns-in_err-admit_alike : goal.returns-in_err-admit_alike
returns-in_err-admit_alike c =
    let p = err_from_is_err_and c.from_residual.result c.from_residual.ensures.1 in
    rw (p.1, p.2)
    (moves_full c.args.self.now c.loop-a.self c.admit_alike.new.self c.args.news.now c.args.olds.now c.loop-a.a-index (record { action = pos 0; target = 0 }) _ _
    c.loop-a-test.true c.loop-a.invariant c.in_err-admit_alike.ensures)
