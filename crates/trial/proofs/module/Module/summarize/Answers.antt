use Rattle.std.proofs.Common.{refl, arith, rules, length, ◌≡◌}
use Rattle.trial.proofs.Rounds.{default_round, next_round}
use Rattle.trial.proofs.module.Module.summarize.Goals as goal

pub loop-round-init : goal.loop-round-init
loop-round-init c = (refl, default_round c.args.self.now.places.now c.default-summaries.result c.args.self.now.few c.default-summaries.ensures)

pub loop-round-preserved : goal.loop-round-preserved
loop-round-preserved c =
    let full : length c.follow_on-summaries.result ≡ 256 = search rules in
    (full, next_round c.args.self.now.places.now c.loop-round._round c.loop-round.summaries c.follow_on-summaries.result c.requires c.loop-round.invariant.1 c.follow_on-summaries.ensures)

pub returns : goal.returns
returns c =
    let n : c.loop-round._round ≡ length c.args.self.now.places.now = omega (arith, c.loop-round.auto._round-end) in
    rw n at c.loop-round.invariant.1
