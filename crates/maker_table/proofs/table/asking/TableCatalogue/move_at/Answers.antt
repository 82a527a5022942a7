use Rattle.std.proofs.Common.{◌+◌, ◌*◌, [], length, None, sym, ap, ◌∙◌, arith, to_z-of_z, w8, SFits, to_z, of_z, rules}
use Rattle.action.specs.Lists.{nth}
use Rattle.catalogue.specs.Catalogue.{State}
use Rattle.table_format.specs.Numbers.{byte, pair, byte_action}
use Rattle.table_format.proofs.Entries.{entry_of, count_entries}
use Rattle.maker_table.specs.Table.{written}
use Rattle.maker_table.proofs.Lookup.{told_state, told_record, nth_move, no_move, some_move}
use Rattle.maker_table.proofs.table.asking.TableCatalogue.move_at.Goals as goal

pub returns-in_err-state_at : goal.returns-in_err-state_at
returns-in_err-state_at c = c.from_residual.ensures ∙ sym (ap (λ (q : State). nth q.moves c.args.number) (told_state (written c.args.self.now) c.args.part c.args.code None (sym c.in_err-state_at.ensures)))

pub returns-in_err-action : goal.returns-in_err-action
returns-in_err-action c =
    let r = c.in_ok-state_at.field-0 in
    let count = byte r.bytes.now (r.at + 4) in
    c.from_residual-in_err-action.ensures
    ∙ sym (no_move r.bytes.now count (r.at + 5) c.args.number (omega (arith, c.in_err-action.ensures.lookup.3, ap length c.moves-moves.ensures, count_entries r.bytes.now count (r.at + 5))))
    ∙ sym (ap (λ (q : State). nth q.moves c.args.number) (told_record c.args.self.now c.args.part c.args.code r.bytes.now r.at c.in_ok-state_at.ensures.0 c.in_ok-state_at.ensures.1))

pub returns : goal.returns
returns c =
    let r = c.in_ok-state_at.field-0 in
    let b = r.bytes.now in
    let k = r.at + 5 + 4 * c.args.number in
    let g = c.in_ok-action.ensures.lookup in
    let e = entry_of b (byte b (r.at + 4)) (r.at + 5) c.args.number c.moves-moves.result.now c.moves-moves.ensures g.3.0 in
    let f : SFits w8 c.action_of.result = search rules in
    some_move (to_z w8 (of_z w8 c.action_of.result)) (byte_action (byte b k)) c.into.result (pair b (k + 2))
    (to_z-of_z f ∙ c.action_of.ensures ∙ ap (λ x. byte_action (byte x 0)) (g.3.1 []) ∙ ap byte_action e.1.action)
    (c.into.ensures ∙ c.from_be_bytes.ensures ∙ ap (λ x. byte x 2 * 256 + byte x 3) (g.3.1 []) ∙ e.1.target)
    ∙ sym (nth_move b (byte b (r.at + 4)) (r.at + 5) c.args.number e.0)
    ∙ sym (ap (λ (q : State). nth q.moves c.args.number) (told_record c.args.self.now c.args.part c.args.code b r.at c.in_ok-state_at.ensures.0 c.in_ok-state_at.ensures.1))
