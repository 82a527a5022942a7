use Rattle.std.proofs.Common.{◌≡◌, ℕ, ◌<◌, length, get_or}
use Rattle.rows.specs.Places.{row}
use Rattle.trial.specs.Summaries.{unknown, summary_by}
use Rattle.trial.proofs.module.Module.follow_on.Given as goal

abbrev pub invariant-loop-i : goal.invariant-loop-i
invariant-loop-i l = (length l.next ≡ 256) × ((k : ℕ) → k < l.i → get_or l.next k unknown ≡ summary_by (row l.place-items k) (λ j. get_or l.summaries j unknown)) × (l.place-items ≡ l.self.places.now)
