use lib.Bits.{bit_and}
use Rattle.std.proofs.Common.{eqb→eq}
use Rattle.action.proofs.Basics.{eq-eqb}
use Rattle.action.proofs.Relations.{within_is, and_within, within_and}
use Rattle.action.proofs.set.ActionSet.is_subset.Goals as goal

pub returns : goal.returns
returns c =
    let s = c.args.self in
    let t = c.args.other in
    record {
      value = within_is s t;
      means = ((λ e. and_within s t (eqb→eq (bit_and s.bits t.bits) s.bits e)), (λ h. eq-eqb (bit_and s.bits t.bits) s.bits (within_and s t h)));
    }
