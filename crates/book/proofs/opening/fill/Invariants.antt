use Rattle.std.proofs.Common.{◌≡◌, ℕ, ◌<◌, length}
use Rattle.book.proofs.Modules.{SoFar}
use Rattle.book.specs.Keeping.{Keeps}
use Rattle.book.proofs.opening.fill.Given as goal

abbrev pub invariant-loop-part : goal.invariant-loop-part
invariant-loop-part l = (length l.table.rows ≡ 64) × SoFar l.places l.modules l.part × ((k : ℕ) → k < l.part → Keeps l.places l.modules l.table.rows k)
