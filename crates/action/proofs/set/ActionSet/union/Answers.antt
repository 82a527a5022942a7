use Rattle.std.proofs.Common.{refl}
use lib.Bits.{or_lt}
use Rattle.action.proofs.Sets.{or_has}
use Rattle.action.proofs.set.ActionSet.union.Goals as goal

pub invariant_of-result : goal.invariant_of-result
invariant_of-result c = record { narrow = or_lt 63 c.args.self.bits c.args.other.bits c.args.self.narrow c.args.other.narrow }

pub returns : goal.returns
returns c = λ a. or_has c.args.self c.args.other _ refl a
