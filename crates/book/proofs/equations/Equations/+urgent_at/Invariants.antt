use Rattle.std.proofs.Common.{◌+◌, ◌*◌}
use Rattle.book.proofs.Walking.{left}
use Rattle.book.proofs.equations.Equations.+urgent_at.Given as goal

abbrev pub decreases-urgent_at : goal.decreases-urgent_at
decreases-urgent_at l = 2 * left l.self.now.places.now l.place + 1

abbrev pub decreases-urgent_below : goal.decreases-urgent_below
decreases-urgent_below l = 2 * left l.self.now.places.now l.place
