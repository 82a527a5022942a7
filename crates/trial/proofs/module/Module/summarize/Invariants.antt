use Rattle.std.proofs.Common.{◌≡◌, length}
use Rattle.trial.specs.Summaries.{Summarizes}
use Rattle.trial.proofs.module.Module.summarize.Given as goal

abbrev pub invariant-loop-round : goal.invariant-loop-round
invariant-loop-round l = (length l.summaries ≡ 256) × Summarizes l.self.places.now l._round l.summaries
