use Rattle.std.proofs.Common.{◌≡◌, ◌<◌, length, get_or, ◌+◌, sym, refl, ap, ◌∙◌, arith, rules}
use Rattle.std.proofs.lemmas.List.{length-take, get_or-take}
use Rattle.book_text.specs.declared.parser.Span.{Span}
use Rattle.rows.specs.declared.row.Place.TheVariants.{Nil}
use Rattle.book_text.specs.Parsers.{row_in}
use Rattle.book_text.specs.Settling.{settled_row, sides_of}
use Rattle.std.proofs.lemmas.Result.{err_from_is_err_and}
use Rattle.book_text.proofs.Trying.{missing}
use Rattle.book_text.proofs.Rowing.{nowhere}
use Rattle.book_text.proofs.Settling.{settling_more, settling_lost}
use Rattle.book_text.proofs.parser.Parser.settle.Goals as goal

pub loop-i-preserved : goal.loop-i-preserved
loop-i-preserved c =
    let d = c.args.self.now in
    let kept : length d.names ≡ 256 = search rules in
    let long = length-take c.from.result d.names in
    let here : c.loop-i.i < d.rows = omega (arith, c.loop-i-test.true, c.from.ensures) in
    let span = get_or-take c.from.result d.names c.loop-i.i nowhere (omega (arith, c.from.ensures)) in
    settling_more c.args.text.now d c.args.places.now c.requires.few kept c.requires.room c.loop-i.places c.loop-i.i c.in_ok-place.place here
    (sym c.in_ok-place.ensures.ok_part ∙ c.settled.ensures ∙ ap (λ (s : Span). settled_row (sides_of c.args.text.now d) (row_in c.args.text.now s (get_or c.loop-i.places (d.first + c.loop-i.i) Nil))) span)
    c.loop-i.invariant

pub returns-in_err-place : goal.returns-in_err-place
returns-in_err-place c =
    let d = c.args.self.now in
    let kept : length d.names ≡ 256 = search rules in
    let long = length-take c.from.result d.names in
    let here : c.loop-i.i < d.rows = omega (arith, c.loop-i-test.true, c.from.ensures) in
    let span = get_or-take c.from.result d.names c.loop-i.i nowhere (omega (arith, c.from.ensures)) in
    let p = err_from_is_err_and c.from_residual.result c.from_residual.ensures.1 in
    rw (p.1, p.2, missing c.settled.result _ c.in_err-place.field-0.0 c.in_err-place.ensures.value) (
      settling_lost c.args.text.now d c.args.places.now c.requires.few kept c.requires.room c.loop-i.places c.loop-i.i here
          (sym c.in_err-place.ensures.ok_part ∙ c.settled.ensures ∙ ap (λ (s : Span). settled_row (sides_of c.args.text.now d) (row_in c.args.text.now s (get_or c.loop-i.places (d.first + c.loop-i.i) Nil))) span)
          c.loop-i.invariant,
      refl,
    )
