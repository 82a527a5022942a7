use Rattle.std.proofs.Common.{◌≡◌, ℤ}
use Rattle.action.specs.Iterating.{coming}
use Rattle.renaming.proofs.Laws.{gathers}
use Rattle.renaming.proofs.renaming.Renaming.image.Given as goal

-- what was gathered, with what the actions to come become, is the image
abbrev pub invariant-loop-action : goal.invariant-loop-action
invariant-loop-action l = (a : ℤ) → gathers l.self.entries l.out (coming l.action-iterator) a ≡ gathers l.self.entries l.initial.out (coming l.initial.action-iterator) a
