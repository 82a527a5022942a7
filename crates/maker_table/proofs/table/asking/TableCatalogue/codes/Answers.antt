use Rattle.std.proofs.Common.{Some, sym, ap, ◌∙◌, arith}
use Rattle.maker_table.specs.Table.{written}
use Rattle.maker_table.proofs.Lookup.{told_codes, listed, place_fine, place_codes}
use Rattle.maker_table.proofs.table.asking.TableCatalogue.codes.Goals as goal

pub overflow_cast-result : goal.overflow_cast-result
overflow_cast-result c =
    let t = c.args.self.now in
    let p = c.in_ok-place.place.now in
    let h = c.in_ok-place.ensures.lookup in
    let l = listed t c.args.part p c.deref.result.now c.deref.ensures.value h.3.0 h.1 in
    omega (arith, c.len.ensures, p.states.ok.0, place_codes t c.args.part p l, (place_fine t c.args.part p l).few)

pub returns : goal.returns
returns c =
    let t = c.args.self.now in
    let p = c.in_ok-place.place.now in
    let h = c.in_ok-place.ensures.lookup in
    let l = listed t c.args.part p c.deref.result.now c.deref.ensures.value h.3.0 h.1 in
    ap Some (c.len.ensures ∙ p.states.ok.0 ∙ place_codes t c.args.part p l) ∙ sym (told_codes (written t) c.args.part (Some p.at) (sym l.there))
