use Rattle.std.proofs.Common.{◌+◌, length, Some, sym, ap, ◌∙◌, arith}
use Rattle.table_format.specs.Numbers.{pair}
use Rattle.table_format.proofs.Numbers.{pair_read, pair_lost}
use Rattle.maker_table.specs.Table.{written}
use Rattle.maker_table.proofs.Lookup.{told_start, listed, place_fine}
use Rattle.maker_table.proofs.table.asking.TableCatalogue.start.Goals as goal

pub returns-in_err-pair_at : goal.returns-in_err-pair_at
returns-in_err-pair_at c =
    let t = c.args.self.now in
    let p = c.in_ok-place.place.now in
    let h = c.in_ok-place.ensures.lookup in
    let f = place_fine t c.args.part p (listed t c.args.part p c.deref.result.now c.deref.ensures.value h.3.0 h.1) in
    absurd (pair_lost c.as_slice.result.now (p.at + 4) (omega (arith, f.start_in, f.inside, ap length c.as_slice.ensures.value)) c.in_err-pair_at.ensures)

pub returns : goal.returns
returns c =
    let t = c.args.self.now in
    let p = c.in_ok-place.place.now in
    let h = c.in_ok-place.ensures.lookup in
    let l = listed t c.args.part p c.deref.result.now c.deref.ensures.value h.3.0 h.1 in
    ap Some (c.into.ensures ∙ pair_read c.as_slice.result.now (p.at + 4) c.in_ok-pair_at.field-0 c.in_ok-pair_at.ensures ∙ ap (λ z. pair z (p.at + 4)) c.as_slice.ensures.value)
    ∙ sym (told_start (written t) c.args.part (Some p.at) (sym l.there))
