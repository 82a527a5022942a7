use Rattle.std.proofs.Common.{refl}
use Rattle.action.proofs.Sets.{zero_has}
use Rattle.action.proofs.set.ActionSet.empty.Goals as goal

pub returns : goal.returns
returns c = λ a. zero_has _ refl a
