use Rattle.std.proofs.Common.{pos, rules, ap, w8, of_z}
use Rattle.std.proofs.lemmas.Result.{err_from_is_err_and}
use Rattle.compare.proofs.Growth.{alike_step, alike_pass, alike_full}
use Rattle.compare.proofs.filled.Filled.admit_alike.Goals as goal
use Rattle.compare.proofs.filled.Filled.admit_alike.Goals.{then-a-b+in_ok-admit, else-a-b}

pub loop-b-preserved : goal.loop-b-preserved
loop-b-preserved c = elim c.if-a-b.branch [
  | then-a-b+in_ok-admit w ↦
      simp w.self-is
      (alike_step c.args.self.now c.loop-b.self w.admit.new.self c.args.a c.args.olds.now c.loop-b.b-index
      (record { action = pos 0; target = 0 }) _ c.loop-b-test.true (search rules) c.loop-b.invariant w.in_ok-admit.ensures)
  | else-a-b w ↦
      simp w.self-is
      (alike_pass c.args.self.now c.loop-b.self c.args.a c.args.olds.now c.loop-b.b-index
      (record { action = pos 0; target = 0 }) _ c.loop-b-test.true (λ e. w.if-a-b.false (ap (of_z w8) e)) c.loop-b.invariant)
]

pub returns-in_err-admit : goal.returns-in_err-admit
returns-in_err-admit c =
    let p = err_from_is_err_and c.from_residual.result c.from_residual.ensures.1 in
    rw (p.1, p.2)
    (alike_full c.args.self.now c.loop-b.self c.admit.new.self c.args.a c.args.olds.now c.loop-b.b-index
    (record { action = pos 0; target = 0 }) _ _ c.loop-b-test.true (search rules) c.loop-b.invariant c.in_err-admit.ensures)
