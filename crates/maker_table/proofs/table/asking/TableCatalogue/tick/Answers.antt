use Rattle.std.proofs.Common.{Some, None, sym, ap, ◌∙◌}
use Rattle.catalogue.specs.Catalogue.{State}
use Rattle.maker_table.specs.Table.{written}
use Rattle.maker_table.proofs.Lookup.{told_state, told_record}
use Rattle.maker_table.proofs.table.asking.TableCatalogue.tick.Goals as goal

pub returns-in_err-state_at : goal.returns-in_err-state_at
returns-in_err-state_at c = c.from_residual.ensures ∙ sym (ap (λ (q : State). q.tick) (told_state (written c.args.self.now) c.args.part c.args.code None (sym c.in_err-state_at.ensures)))

pub returns-in_err-tick : goal.returns-in_err-tick
returns-in_err-tick c =
    let r = c.in_ok-state_at.field-0 in
    c.from_residual-in_err-tick.ensures ∙ c.in_err-tick.ensures ∙ sym (ap (λ (q : State). q.tick) (told_record c.args.self.now c.args.part c.args.code r.bytes.now r.at c.in_ok-state_at.ensures.0 c.in_ok-state_at.ensures.1))

pub returns : goal.returns
returns c =
    let r = c.in_ok-state_at.field-0 in
    ap Some c.into.ensures ∙ c.in_ok-tick.ensures ∙ sym (ap (λ (q : State). q.tick) (told_record c.args.self.now c.args.part c.args.code r.bytes.now r.at c.in_ok-state_at.ensures.0 c.in_ok-state_at.ensures.1))
