use Rattle.std.proofs.lemmas.Result.{err_from_is_err_and}
use Rattle.compare.proofs.Growth.{explore_step, explore_full, explore_done}
use Rattle.compare.proofs.filled.Filled.explore.Goals as goal

pub loop-at-preserved : goal.loop-at-preserved
loop-at-preserved g c =
    explore_step c.args.self.now c.loop-at.self c.expand.new.self c.loop-at.at c.args.modules.now.new c.args.modules.now.old _ c.loop-at-test.true c.loop-at.invariant.1 c.in_ok-expand.ensures

pub returns : goal.returns
returns g c =
    explore_done c.args.self.now c.loop-at.self c.loop-at.at c.args.modules.now.new c.args.modules.now.old _ c.loop-at-test.false c.loop-at.invariant.1

pub returns-in_err-expand : goal.returns-in_err-expand
returns-in_err-expand g c =
    let p = err_from_is_err_and c.from_residual.result c.from_residual.ensures.1 in
    rw (p.1, p.2)
    (explore_full c.args.self.now c.loop-at.self c.expand.new.self c.loop-at.at c.args.modules.now.new c.args.modules.now.old _ _ c.loop-at-test.true c.loop-at.invariant.1 c.in_err-expand.ensures)
