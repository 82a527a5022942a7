-- Walking over a set of actions: the actions still to come. Assumes nothing.
use Rattle.std.specs.Prelude.{◌≡◌, ◌-◌, List, [], ◌∷◌, ℤ, Some, None, Option}
use Rattle.action.specs.declared.set.iter.Actions.{Actions}
use Rattle.action.specs.Lists.{kept}
use Rattle.action.specs.Sets.{has, rising}

-- the actions of the set from the next bit on, in rising order
unfoldable pub coming : Actions → List ℤ
coming w = kept (has w.set) (rising (63 - w.bit) w.bit)

-- What one step of a walk gives: the first of what was to come, or nothing where nothing was.
abbrev pub Comes : {A : Type 0} → List A → Option A → List A → Type 0
Comes xs None ys = (xs ≡ []) × (ys ≡ [])
Comes xs (Some a) ys = xs ≡ a ∷ ys
