use Rattle.std.proofs.Common.{◌≡◌, eqb, sym, ap, ◌∙◌, w8}
use Rattle.std.proofs.lemmas.Int.{to_z-of_z}
use Rattle.action.specs.Sets.{place}
use Rattle.action.proofs.Bits.{bit}
use Rattle.action.proofs.Sets.{has_bit, has_far, told_near, told_far}
use Rattle.action.proofs.set.ActionSet.contains.Goals as goal

pub returns-then-not-is_action : goal.returns-then-not-is_action
returns-then-not-is_action c =
    sym (has_far c.args.self c.args.action (told_far c.args.action c.is_action.result c.ranges.action c.is_action.ensures c.if-not-is_action.true))

pub returns : goal.returns
returns c =
    let near = told_near c.args.action c.is_action.result c.ranges.action c.is_action.ensures c.if-not-is_action.false in
    let at : c.bit_of.result ≡ place c.args.action = c.bit_of.ensures ∙ ap place (to_z-of_z w8 c.args.action c.ranges.action) in
    ap (λ k. eqb (bit c.args.self.bits k) 1) at ∙ sym (has_bit c.args.self c.args.action near)
