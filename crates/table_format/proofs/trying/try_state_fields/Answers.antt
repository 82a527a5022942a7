use Rattle.std.proofs.Common.{◌+◌, length, ap, ◌∙◌, sym, arith}
use Rattle.std.specs.Bool.{beq}
use Rattle.std.proofs.lemmas.Result.{err_from_is_err_and}
use Rattle.table_format.specs.Numbers.{byte}
use Rattle.table_format.proofs.Entries.{count_entries}
use Rattle.table_format.proofs.Fields.{count_stops, moves_stop_fields, time_stops, fields_pass}
use Rattle.table_format.proofs.trying.try_state_fields.Goals as goal

pub returns-then-moves-gt-MOST_TABLE_MOVES : goal.returns-then-moves-gt-MOST_TABLE_MOVES
returns-then-moves-gt-MOST_TABLE_MOVES c =
    let b = c.args.state.bytes.now in
    let s = c.args.state.at in
    count_stops b c.args.codes s c.tick-tick.result c.tick-tick.ensures (sym c.leads_outside.ensures ∙ c.if-leads_outside.false)
    (omega (arith, ap length c.moves-moves.ensures, count_entries b (byte b (s + 4)) (s + 5)))

pub returns-in_err-try_moves : goal.returns-in_err-try_moves
returns-in_err-try_moves c =
    let p = err_from_is_err_and c.from_residual.result c.from_residual.ensures.1 in
    let b = c.args.state.bytes.now in
    let s = c.args.state.at in
    rw (p.1, p.2) (moves_stop_fields b c.args.codes s c.tick-tick.result c.tick-tick.ensures (sym c.leads_outside.ensures ∙ c.if-leads_outside.false)
    (omega (arith, ap length c.moves-moves.ensures, count_entries b (byte b (s + 4)) (s + 5))) _ c.in_err-try_moves.ensures)

pub returns-then-is_some-internal_marked : goal.returns-then-is_some-internal_marked
returns-then-is_some-internal_marked c =
    let b = c.args.state.bytes.now in
    let s = c.args.state.at in
    time_stops b c.args.codes s c.tick-tick.result c.tick-tick.ensures (sym c.leads_outside.ensures ∙ c.if-leads_outside.false)
    (omega (arith, ap length c.moves-moves.ensures, count_entries b (byte b (s + 4)) (s + 5))) c.in_ok-try_moves.ensures c.moves-moves.result.now c.internal_marked.result c.moves-moves.ensures c.internal_marked.ensures
    (ap (λ t. beq t c.internal_marked.result) (sym c.is_some.ensures) ∙ c.if-is_some-internal_marked.true)

pub returns : goal.returns
returns c =
    let b = c.args.state.bytes.now in
    let s = c.args.state.at in
    fields_pass b c.args.codes s c.tick-tick.result c.tick-tick.ensures (sym c.leads_outside.ensures ∙ c.if-leads_outside.false)
    (omega (arith, ap length c.moves-moves.ensures, count_entries b (byte b (s + 4)) (s + 5))) c.in_ok-try_moves.ensures c.moves-moves.result.now c.internal_marked.result c.moves-moves.ensures c.internal_marked.ensures
    (ap (λ t. beq t c.internal_marked.result) (sym c.is_some.ensures) ∙ c.if-is_some-internal_marked.false)
