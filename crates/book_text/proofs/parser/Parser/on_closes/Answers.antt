use Rattle.std.proofs.Common.{◌≡◌, ℕ, ◌+◌, List, length, sym, ◌∙◌, inl, inr, subst, arith}
use Rattle.std.proofs.lemmas.Bool.{cases_lt, false≢true}
use Rattle.book_text.specs.Parsers.{rows_in, view}
use Rattle.book_text.specs.Stacks.{waiting_on}
use Rattle.book_text.specs.Changes.{with_stack, with_floors, Finishes}
use Rattle.book_words.specs.Words.Kind.{closes}
use Rattle.book_text.proofs.Terms.{closes_no, closes_none, closes_does}
use Rattle.book_text.proofs.Trying.{not_here, refuses, stopped, missing}
use Rattle.book_text.proofs.parser.Parser.on_closes.Goals as goal

pub returns-in_err-expect : goal.returns-in_err-expect
returns-in_err-expect c = λ text M st.
    not_here text c.args.self.now c.args.places.now M closes c.args.self.now.at _ _ c.from_residual.ensures.1 (closes_no text c.args.self.now c.args.places.now M c.args.self.now.at st c.in_err-expect.ensures.0) c.in_err-expect.ensures.1

pub returns-in_err-ok_or : goal.returns-in_err-ok_or
returns-in_err-ok_or c = λ text M st.
    let d = c.args.self.now in
    let P = c.args.places.now in
    let none : length c.args.self.now.stack.floors.items ≡ 0 = elim (cases_lt 0 (length c.args.self.now.stack.floors.items)) [
      | inl h ↦ absurd (false≢true (c.in_err-ok_or.ensures.variant ∙ c.pop.ensures.variant.1 h))
      | inr h ↦ omega arith
    ] in
    refuses (length P) (length M) (length text) (view text d P M) closes d.at _ _ c.in_err-ok_or.field-0.0 c.from_residual-in_err-ok_or.result c.from_residual-in_err-ok_or.ensures.1
    (stopped (length P) (length M) (view text d P M) closes d.at _ (closes_none text d P M d.at st c.in_ok-expect.ensures none) (missing _ _ _ c.in_err-ok_or.ensures.value))

pub returns : goal.returns
returns c = λ text M st.
    let d = c.args.self.now in
    closes_does text d c.args.places.now M c.args.self.now.at st c.finish.new.self c.finish.new.places c.finish.result
    c.in_ok-expect.ensures (c.pop.ensures.variant.0 (sym c.in_ok-ok_or.ensures.variant))
    (subst (λ (fs : List ℕ). Finishes (with_stack d.state (with_floors fs d.stack) d) (with_floors fs d.stack) c.args.places.now (rows_in d.first d.rows c.args.places.now) c.args.self.now.at
    c.finish.new.self c.finish.new.places (d.rows + waiting_on (with_floors fs d.stack)) c.finish.result) c.pop.ensures.rest c.finish.ensures)
