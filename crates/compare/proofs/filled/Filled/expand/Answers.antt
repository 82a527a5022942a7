use Rattle.std.proofs.Common.{◌∙◌}
use Rattle.std.proofs.lemmas.Result.{err_from_is_err_and}
use Rattle.compare.proofs.Growth.{expand_full, expand_grows}
use Rattle.compare.proofs.filled.Filled.expand.Goals as goal

pub returns : goal.returns
returns g c =
    expand_grows c.args.self.now c.args.modules.now.new c.args.modules.now.old c.args.held.new c.args.held.old c.as_slice.result.now c.as_slice-2.result.now
    (c.as_slice.ensures ∙ c.moves.ensures.news) (c.as_slice-2.ensures ∙ c.moves.ensures.olds)
    c.admit_moves.new.self c.admit_ticks.new.self c.tick.result c.tick-2.result c.admit_ticks.result c.tick.ensures c.tick-2.ensures
    c.in_ok-admit_moves.ensures c.admit_ticks.ensures

pub returns-in_err-admit_moves : goal.returns-in_err-admit_moves
returns-in_err-admit_moves g c =
    let p = err_from_is_err_and c.from_residual.result c.from_residual.ensures.1 in
    rw (p.1, p.2)
    (expand_full c.args.self.now c.args.modules.now.new c.args.modules.now.old c.args.held.new c.args.held.old c.as_slice.result.now c.as_slice-2.result.now
    (c.as_slice.ensures ∙ c.moves.ensures.news) (c.as_slice-2.ensures ∙ c.moves.ensures.olds)
    c.admit_moves.new.self _ c.in_err-admit_moves.ensures)
