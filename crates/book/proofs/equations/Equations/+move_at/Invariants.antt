use Rattle.book.proofs.Walking.{left}
use Rattle.book.proofs.equations.Equations.+move_at.Given as goal

abbrev pub decreases-move_at : goal.decreases-move_at
decreases-move_at l = left l.self.now.places.now l.place
