use Rattle.std.proofs.Common.{◌≡◌, ◌+◌, length, ap, ◌∙◌, arith}
use Rattle.std.proofs.lemmas.Result.{err_from_is_err_and}
use Rattle.table_format.specs.Numbers.{byte}
use Rattle.table_format.proofs.Entries.{count_entries}
use Rattle.table_format.proofs.Fine.{state_fine}
use Rattle.table_format.proofs.Passing.{state_length_stops, state_rest}
use Rattle.table_format.proofs.module.Module.try_state.Goals as goal

pub returns-in_err-state : goal.returns-in_err-state
returns-in_err-state c =
    let p = err_from_is_err_and c.from_residual.result c.from_residual.ensures.1 in
    rw (p.1, p.2) (state_length_stops c.args.self.bytes.now c.args.self.codes c.args.self.end c.args.s _ c.in_err-state.ensures)

pub returns-in_err-try_state_fields : goal.returns-in_err-try_state_fields
returns-in_err-try_state_fields c =
    let p = err_from_is_err_and c.from_residual-in_err-try_state_fields.result c.from_residual-in_err-try_state_fields.ensures.1 in
    let h = c.in_ok-state.ensures in
    rw (p.1, p.2) (state_rest c.args.self.bytes.now c.in_ok-state.state.bytes.now c.args.self.codes c.args.self.end c.args.s c.in_ok-state.state.at h.1.0 h.1.1 h.0 ∙ c.in_err-try_state_fields.ensures)

pub returns : goal.returns
returns c =
    let b = c.args.self.bytes.now in
    let d = c.in_ok-state.state in
    let h = c.in_ok-state.ensures in
    let e = state_rest b d.bytes.now c.args.self.codes c.args.self.end c.args.s d.at h.1.0 h.1.1 h.0 ∙ c.in_ok-try_state_fields.ensures in
    let n : length c.moves.result.now ≡ byte b (c.args.s + 4) = ap length c.moves.ensures ∙ count_entries d.bytes.now (byte d.bytes.now (d.at + 4)) (d.at + 5) ∙ ap (λ z. byte z (d.at + 4)) h.1.0 ∙ ap (λ i. byte b (i + 4)) h.1.1 in
    (e, omega (arith, (state_fine b c.args.self.codes c.args.self.end c.args.s e).right))
