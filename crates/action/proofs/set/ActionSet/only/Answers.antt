use Rattle.std.proofs.Common.{◌≡◌, ℕ, ◌*◌, ◌%◌, ◌^◌, ◌<◌, ◌&&◌, sym, ap, ◌∙◌, arith, w8}
use lib.Pow.{pow-lt}
use Rattle.std.proofs.lemmas.Nat.{one_shl}
use Rattle.std.proofs.lemmas.Int.{to_z-of_z}
use Rattle.std.proofs.lemmas.Bool.{lt-leb}
use Rattle.action.specs.Action.{same, last_port}
use Rattle.action.specs.Sets.{place}
use Rattle.action.proofs.Sets.{one_has, place_below, told_near, told_far}
use Rattle.action.proofs.set.ActionSet.only.Goals as goal

pub returns-then-not-is_action : goal.returns-then-not-is_action
returns-then-not-is_action c =
    let far = told_far c.args.action c.is_action.result c.ranges.action c.is_action.ensures c.if-not-is_action.true in
    λ a. c.empty.ensures a ∙ sym (ap (λ b. b && same c.args.action a) (lt-leb _ last_port far))

bit_is : (k p : ℕ) → k ≡ p → p < 63 → 1 * 2 ^ k % 18446744073709551616 ≡ 2 ^ p
bit_is k p e h = ap (λ j. 1 * 2 ^ j % 18446744073709551616) e ∙ one_shl p 64 (omega arith)

pub invariant_of-result : goal.invariant_of-result
invariant_of-result c =
    let near = told_near c.args.action c.is_action.result c.ranges.action c.is_action.ensures c.if-not-is_action.false in
    let below = place_below c.args.action near in
    let at : c.bit_of.result ≡ place c.args.action = c.bit_of.ensures ∙ ap place (to_z-of_z w8 c.args.action c.ranges.action) in
    let is = bit_is c.bit_of.result (place c.args.action) at below in
    let small : 2 ^ place c.args.action < 2 ^ 63 = pow-lt below in
    record { narrow = omega arith }

pub returns : goal.returns
returns c =
    let near = told_near c.args.action c.is_action.result c.ranges.action c.is_action.ensures c.if-not-is_action.false in
    let below = place_below c.args.action near in
    let at : c.bit_of.result ≡ place c.args.action = c.bit_of.ensures ∙ ap place (to_z-of_z w8 c.args.action c.ranges.action) in
    λ a. one_has _ c.args.action near (bit_is c.bit_of.result (place c.args.action) at below) a
