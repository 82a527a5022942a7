use Rattle.std.proofs.Common.{ℕ, List, map, Some, None, sym, ap, ◌∙◌}
use Rattle.std.specs.List.{find}
use Rattle.rows.specs.declared.row.Place.{Place}
use Rattle.book_grammar.specs.Rows.Row.{named}
use Rattle.book_text.specs.Names.{is_named}
use Rattle.book_text.specs.Parsers.{side_in, row_in}
use Rattle.book_text.specs.Settling.{settled_row}
use Rattle.book_text.proofs.Settling.{settled_named}
use Rattle.book_text.proofs.parser.Parser.settled.Goals as goal

pub returns-in_err-label : goal.returns-in_err-label
returns-in_err-label c =
    let ls = c.args.self.now.lefts.items in
    let S = map (side_in c.args.text.now) ls in
    c.from_residual.ensures
    ∙ settled_named c.args.text.now ls c.part.result.now None (ap (find (is_named c.args.text.now c.part.result.now)) (sym c.as_slice.ensures.value) ∙ sym c.in_err-label.ensures)
    ∙ ap (λ (y : List ℕ). settled_row S (named y)) c.part.ensures ∙ ap (λ (p : Place). settled_row S (row_in c.args.text.now c.args.span p)) (sym c.in-Name.is)

pub returns : goal.returns
returns c =
    let ls = c.args.self.now.lefts.items in
    let S = map (side_in c.args.text.now) ls in
    settled_named c.args.text.now ls c.part.result.now (Some c.in_ok-label.label) (ap (find (is_named c.args.text.now c.part.result.now)) (sym c.as_slice.ensures.value) ∙ sym c.in_ok-label.ensures)
    ∙ ap (λ (y : List ℕ). settled_row S (named y)) c.part.ensures ∙ ap (λ (p : Place). settled_row S (row_in c.args.text.now c.args.span p)) (sym c.in-Name.is)
