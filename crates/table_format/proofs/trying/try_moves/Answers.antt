use Rattle.std.proofs.Common.{◌≡◌, ◌+◌, ◌-◌, ◌*◌, true, false, length, sym, ap, ◌∙◌, arith}
use Rattle.action.specs.Action.{is_action}
use Rattle.table_format.specs.Numbers.{byte, byte_action}
use Rattle.table_format.specs.Taking.{moves_fault}
use Rattle.table_format.proofs.Entries.{entry_of, count_entries}
use Rattle.table_format.proofs.Fine.{action_stops, mark_stops, state_stops, fine_action}
use Rattle.table_format.proofs.Passing.{moves_on, moves_stop}
use Rattle.table_format.proofs.trying.try_moves.Goals as goal

pub returns-then-not-is_action_byte : goal.returns-then-not-is_action_byte
returns-then-not-is_action_byte c =
    let b = c.args.state.bytes.now in
    let count = byte b (c.args.state.at + 4) in
    let i = c.loop-i.i in
    let k = c.args.state.at + 5 + 4 * i in
    let e = entry_of b count (c.args.state.at + 5) i c.moves-action-items.result.now c.moves-action-items.ensures c.loop-i-test.true in
    let a : is_action (byte_action (byte b k)) ≡ false = ap (λ x. is_action (byte_action x)) (sym e.1.action) ∙ sym c.if-not-is_action_byte.ensures in
    sym c.loop-i.invariant ∙ moves_stop b c.args.codes (count - i) (count - (i + 1)) k _ (omega arith) (action_stops b c.args.codes k a)

pub returns-then-mark-gt1 : goal.returns-then-mark-gt1
returns-then-mark-gt1 c =
    let b = c.args.state.bytes.now in
    let count = byte b (c.args.state.at + 4) in
    let i = c.loop-i.i in
    let k = c.args.state.at + 5 + 4 * i in
    let e = entry_of b count (c.args.state.at + 5) i c.moves-action-items.result.now c.moves-action-items.ensures c.loop-i-test.true in
    let a : is_action (byte_action (byte b k)) ≡ true = ap (λ x. is_action (byte_action x)) (sym e.1.action) ∙ sym c.if-not-is_action_byte.ensures in
    sym c.loop-i.invariant ∙ moves_stop b c.args.codes (count - i) (count - (i + 1)) k _ (omega arith) (mark_stops b c.args.codes k a (omega (arith, e.1.mark, c.if-mark-gt1.true)))

pub returns-then-from_be_bytes-codes : goal.returns-then-from_be_bytes-codes
returns-then-from_be_bytes-codes c =
    let b = c.args.state.bytes.now in
    let count = byte b (c.args.state.at + 4) in
    let i = c.loop-i.i in
    let k = c.args.state.at + 5 + 4 * i in
    let e = entry_of b count (c.args.state.at + 5) i c.moves-action-items.result.now c.moves-action-items.ensures c.loop-i-test.true in
    let a : is_action (byte_action (byte b k)) ≡ true = ap (λ x. is_action (byte_action x)) (sym e.1.action) ∙ sym c.if-not-is_action_byte.ensures in
    sym c.loop-i.invariant ∙ moves_stop b c.args.codes (count - i) (count - (i + 1)) k _ (omega arith) (state_stops b c.args.codes k a (omega (arith, e.1.mark, c.if-mark-gt1.false)) (omega (arith, e.1.target)))

pub loop-i-preserved : goal.loop-i-preserved
loop-i-preserved c =
    let b = c.args.state.bytes.now in
    let count = byte b (c.args.state.at + 4) in
    let i = c.loop-i.i in
    let k = c.args.state.at + 5 + 4 * i in
    let e = entry_of b count (c.args.state.at + 5) i c.moves-action-items.result.now c.moves-action-items.ensures c.loop-i-test.true in
    let a : is_action (byte_action (byte b k)) ≡ true = ap (λ x. is_action (byte_action x)) (sym e.1.action) ∙ sym c.if-not-is_action_byte.ensures in
    sym (moves_on b c.args.codes (count - i) (count - (i + 1)) k (c.args.state.at + 5 + 4 * (i + 1)) (omega arith) (omega arith) (fine_action b c.args.codes k a (omega (arith, e.1.mark, c.if-mark-gt1.false)) (omega (arith, e.1.target)))) ∙ c.loop-i.invariant

pub returns : goal.returns
returns c =
    let b = c.args.state.bytes.now in
    let count = byte b (c.args.state.at + 4) in
    let from = c.args.state.at + 5 in
    let z : count - c.loop-i.i ≡ 0 = omega (arith, ap length c.moves-action-items.ensures, count_entries b count from) in
    sym c.loop-i.invariant ∙ ap (λ j. moves_fault b c.args.codes j (from + 4 * c.loop-i.i)) z
