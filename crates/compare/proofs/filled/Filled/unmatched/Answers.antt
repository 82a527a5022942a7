use Rattle.std.proofs.Common.{ℕ, ◌+◌, pos, sym, ◌∙◌, subst}
use Rattle.compare.proofs.Ranks.{Sofar, judged_held, sofar_none, sofar_some}
use Rattle.compare.proofs.filled.Filled.unmatched.Goals as goal
use Rattle.compare.proofs.filled.Filled.unmatched.Goals.{in-Some+else-outlasts, in_default}

pub returns-then-outlasts : goal.returns-then-outlasts
returns-then-outlasts c =
    judged_held c.args.self.now.rows.now c.args.self.now.count c.args.side c.args.a c.args.others.now c.loop-b.b-index c.args.limit c.in-Some.rank (record { action = pos 0; target = 0 })
    c.loop-b-test.true c.in-Some.ensures c.if-outlasts.ensures

pub loop-b-preserved : goal.loop-b-preserved
loop-b-preserved c = elim c.match-partner_rank.branch [
  | in-Some+else-outlasts w ↦
      subst (λ (y : ℕ). Sofar c.args.self.now.rows.now c.args.self.now.count c.args.side c.args.a c.args.others.now (c.loop-b.b-index + 1) y c.args.limit) (sym (w.last-is ∙ w.max-last.ensures))
      (sofar_some c.args.self.now.rows.now c.args.self.now.count c.args.side c.args.a c.args.others.now c.loop-b.b-index c.loop-b.last c.args.limit w.in-Some.rank (record { action = pos 0; target = 0 })
      c.args.self.now.indexed.apart c.args.self.now.modest c.loop-b-test.true w.in-Some.ensures w.if-outlasts.ensures c.loop-b.invariant)
  | in_default w ↦
      subst (λ (y : ℕ). Sofar c.args.self.now.rows.now c.args.self.now.count c.args.side c.args.a c.args.others.now (c.loop-b.b-index + 1) y c.args.limit) (sym w.last-is)
      (sofar_none c.args.self.now.rows.now c.args.self.now.count c.args.side c.args.a c.args.others.now c.loop-b.b-index c.loop-b.last c.args.limit (record { action = pos 0; target = 0 })
      c.loop-b-test.true w.in_default.ensures c.loop-b.invariant)
]
