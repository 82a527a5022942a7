use Rattle.std.proofs.Common.{◌∙◌, refl, arith}
use Rattle.compare.specs.Growth.{pairs_in}
use Rattle.compare.proofs.Sweeping.{done_start, settle_step, settled}
use Rattle.compare.proofs.filled.Filled.settle.Goals as goal

pub returns-clause-ranked : goal.returns-clause-ranked
returns-clause-ranked g c i l =
    settled c.args.modules.now.new c.args.modules.now.old (pairs_in c.loop-least.self) c.loop-least.self.count (pairs_in c.args.self.now) c.loop-least.self.rows.now c.sweep.new.self.rows.now c.loop-least.done c.sweep.result
    c.loop-least.invariant.2.held c.in_default.is c.loop-least.invariant.3 c.sweep.ensures.swept i (omega (arith, l, c.loop-least.invariant.1))

pub loop-least-init : goal.loop-least-init
loop-least-init g c = (
  refl,
  refl,
  c.requires,
  done_start c.args.modules.now.new c.args.modules.now.old (pairs_in c.args.self.now) c.args.self.now.count c.args.self.now.rows.now c.requires.within refl,
  record { pairs = refl; rest = refl },
)

pub loop-least-preserved : goal.loop-least-preserved
loop-least-preserved g c =
    let t = settle_step c.args.modules.now.new c.args.modules.now.old (pairs_in c.loop-least.self) (pairs_in c.args.self.now) c.args.self.now.rows.now c.loop-least.self.rows.now c.sweep.new.self.rows.now
    c.args.self.now.count c.loop-least.self.count c.sweep.new.self.count c.loop-least.done c.in-Some.least c.sweep.result c.loop-least.invariant.2.held c.loop-least.invariant.1 c.sweep.ensures.same_count
    c.in-Some.is c.loop-least.invariant.4 c.loop-least.invariant.3 c.sweep.ensures.swept in
    (c.sweep.ensures.same_reference ∙ c.loop-least.invariant.0, c.sweep.ensures.same_count ∙ c.loop-least.invariant.1, t.0, t.1, t.2)
