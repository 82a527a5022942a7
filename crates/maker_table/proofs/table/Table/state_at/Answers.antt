use Rattle.std.proofs.Common.{sym, subst}
use Rattle.table_format.specs.Reading.{Whole}
use Rattle.table_format.proofs.Taken.{taken_none}
use Rattle.maker_table.specs.Table.{written}
use Rattle.maker_table.proofs.Lookup.{listed, no_state, a_state, found_whole}
use Rattle.maker_table.proofs.table.Table.state_at.Goals as goal

pub returns-in_err-at : goal.returns-in_err-at
returns-in_err-at c =
    let h = c.in_ok-place.ensures.lookup in
    let l = listed c.args.self.now c.args.part c.in_ok-place.place.now c.deref.result.now c.deref.ensures.value h.3.0 h.1 in
    rw c.from_residual-in_err-at.ensures (no_state c.args.self.now c.args.part c.args.code c.in_ok-place.place.now l c.deref-2.result.now c.deref-2.ensures.value c.in_err-at.ensures.lookup.3)

pub invariant_of-result : goal.invariant_of-result
invariant_of-result c =
    let t = c.args.self.now in
    let h = c.in_ok-place.ensures.lookup in
    let l = listed t c.args.part c.in_ok-place.place.now c.deref.result.now c.deref.ensures.value h.3.0 h.1 in
    let e = a_state t c.args.part c.args.code c.in_ok-place.place.now l c.deref-2.result.now c.deref-2.ensures.value c.in_ok-at.at.now c.in_ok-at.ensures.lookup.3.0 c.in_ok-at.ensures.lookup.1 in
    record { whole = subst (λ z. Whole z c.in_ok-at.at.now) (sym c.as_slice.ensures.value) (found_whole (written t) c.args.part c.args.code c.in_ok-at.at.now (taken_none (written t) t.fine) e) }

pub returns : goal.returns
returns c =
    let h = c.in_ok-place.ensures.lookup in
    let l = listed c.args.self.now c.args.part c.in_ok-place.place.now c.deref.result.now c.deref.ensures.value h.3.0 h.1 in
    (c.as_slice.ensures.value, a_state c.args.self.now c.args.part c.args.code c.in_ok-place.place.now l c.deref-2.result.now c.deref-2.ensures.value c.in_ok-at.at.now c.in_ok-at.ensures.lookup.3.0 c.in_ok-at.ensures.lookup.1)
