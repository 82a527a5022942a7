use Rattle.std.proofs.Common.{refl}
use Rattle.action.specs.Sets.{actions, members}
use Rattle.action.specs.Iterating.{coming}
use Rattle.action.proofs.set.ActionSet.iter.Goals as goal

pub returns : goal.returns
unfolding coming members actions
returns c = refl
