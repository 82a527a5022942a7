use Rattle.std.proofs.Common.{◌≡◌, ℕ, ℤ, pos, nat_abs, sym, ap, ◌∙◌, arith, w8, SFits, to_z, of_z}
use Rattle.std.proofs.lemmas.Int.{to_z-of_z}
use Rattle.std.proofs.lemmas.Bool.{lt-leb}
use Rattle.action.proofs.Sets.{has_far}
use Rattle.line.proofs.lines.Line.hides.Goals as goal

-- the port of an action
port : (a : ℤ) (p : ℕ) → SFits w8 a → p ≡ nat_abs (to_z w8 (of_z w8 a)) → p ≡ nat_abs a
port a p f e = e ∙ ap nat_abs (to_z-of_z w8 a f)

pub returns-else-port : goal.returns-else-port
returns-else-port c =
    let is = port c.args.action c.unsigned_abs-port.result c.ranges.action c.unsigned_abs-port.ensures.value in
    lt-leb c.unsigned_abs-port.result 31 c.if-port.false ∙ sym (has_far c.args.self.now.hidden (pos (nat_abs c.args.action)) (omega (arith, is, c.if-port.false)))
