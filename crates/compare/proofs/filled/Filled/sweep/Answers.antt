use Rattle.std.proofs.Common.{ℕ, ◌-◌, min, Some, set, sym, ap, ◌∙◌, subst, arith}
use Rattle.pair_table.specs.Laws.{row}
use Rattle.compare.specs.Growth.{pairs_in}
use Rattle.compare.specs.Ranks.{DoneTo, Swept}
use Rattle.compare.proofs.Sweeping.{swept_over, swept_pass, swept_write, beyond_else, hurries_on, indexed_write, fair_modest}
use Rattle.compare.proofs.filled.Filled.sweep.Goals as goal

pub invariant_of-self : goal.invariant_of-self
invariant_of-self g c =
    record {
      indexed = indexed_write c.loop-i.self.index.now c.loop-i.self.rows.now c.loop-i.self.count (c.loop-i.i - 1) c.drop_round-rank.result (omega (arith, c.loop-i.invariant.1, c.loop-i.auto.i, c.loop-i-test.true)) c.loop-i.self.indexed;
      modest = fair_modest c.args.modules.now.new c.args.modules.now.old (pairs_in c.args.self.now) _ c.loop-i.self.count c.loop-i.self.indexed.few
          (swept_write c.args.modules.now.new c.args.modules.now.old (pairs_in c.args.self.now) c.loop-i.self.count c.args.self.now.rows.now c.loop-i.self.rows.now c.args.done c.loop-i.i c.drop_round-rank.result c.loop-i.least
          c.loop-i-test.true (omega (arith, c.loop-i.invariant.1, c.loop-i.auto.i)) c.if-rank-held.true c.drop_round-rank.type_inv c.drop_round-rank.ensures c.loop-i.invariant.2).fair;
    }

pub drop_round-rank-requires-clause-hurries : goal.drop_round-rank-requires-clause-hurries
drop_round-rank-requires-clause-hurries g c =
    hurries_on c.args.modules.now.new c.args.modules.now.old (pairs_in c.args.self.now) c.loop-i.self.count c.args.self.now.rows.now c.loop-i.self.rows.now c.args.done c.loop-i.i (c.loop-i.i - 1) c.loop-i.least
    (subst (λ (n : ℕ). DoneTo c.args.modules.now.new c.args.modules.now.old (pairs_in c.args.self.now) c.args.self.now.rows.now n c.args.done) (sym c.loop-i.invariant.1) c.requires.done)
    c.loop-i.invariant.2 (omega (arith, c.loop-i-test.true, c.loop-i.invariant.1, c.loop-i.auto.i)) (beyond_else _ c.args.done c.else-held-gt0.either)

pub loop-i-preserved-then-held-done : goal.loop-i-preserved-then-held-done
loop-i-preserved-then-held-done g c = (
  c.loop-i.invariant.0,
  c.loop-i.invariant.1,
  swept_over c.args.modules.now.new c.args.modules.now.old (pairs_in c.args.self.now) c.loop-i.self.count c.args.self.now.rows.now c.loop-i.self.rows.now c.args.done c.loop-i.i c.loop-i.least
      c.loop-i-test.true c.if-held-gt0.true c.if-held-done.true c.loop-i.invariant.2,
)

pub loop-i-preserved : goal.loop-i-preserved
loop-i-preserved g c = (
  c.loop-i.invariant.0,
  c.loop-i.invariant.1,
  swept_pass c.args.modules.now.new c.args.modules.now.old (pairs_in c.args.self.now) c.loop-i.self.count c.args.self.now.rows.now c.loop-i.self.rows.now c.args.done c.loop-i.i c.drop_round-rank.result c.loop-i.least
      c.loop-i-test.true (omega (arith, c.loop-i.invariant.1, c.loop-i.auto.i)) c.if-rank-held.false c.drop_round-rank.ensures c.loop-i.invariant.2,
)

pub loop-i-preserved-then-rank-held : goal.loop-i-preserved-then-rank-held
loop-i-preserved-then-rank-held g c = (
  c.loop-i.invariant.0,
  c.loop-i.invariant.1,
  subst (λ (x : ℕ). Swept c.args.modules.now.new c.args.modules.now.old (pairs_in c.args.self.now) c.args.self.now.rows.now
      (set c.loop-i.self.rows.now (c.loop-i.i - 1)
      (record { new = (row c.loop-i.self.rows.now (c.loop-i.i - 1)).new; old = (row c.loop-i.self.rows.now (c.loop-i.i - 1)).old; rank = c.drop_round-rank.result }))
      c.loop-i.self.count c.args.done (c.loop-i.i - 1) (Some x))
      (sym (c.min.ensures ∙ ap (min c.drop_round-rank.result) c.unwrap_or.ensures))
      (swept_write c.args.modules.now.new c.args.modules.now.old (pairs_in c.args.self.now) c.loop-i.self.count c.args.self.now.rows.now c.loop-i.self.rows.now c.args.done c.loop-i.i c.drop_round-rank.result c.loop-i.least
      c.loop-i-test.true (omega (arith, c.loop-i.invariant.1, c.loop-i.auto.i)) c.if-rank-held.true c.drop_round-rank.type_inv c.drop_round-rank.ensures c.loop-i.invariant.2),
)
