use Rattle.std.proofs.Common.{◌≤◌, ◌⊎◌, length, refl, inl, inr, arith}
use Rattle.std.proofs.lemmas.Bool.{cases_lt}
use Rattle.book_words.specs.Words.Kind.{begins}
use Rattle.book_text.proofs.Passing.{module_no, module_many, module_ok}
use Rattle.book_text.proofs.Trying.{not_here}
use Rattle.book_text.proofs.parser.Parser.on_module.Goals as goal

pub returns-in_err-expect : goal.returns-in_err-expect
returns-in_err-expect c = λ text P M e st.
    not_here text c.args.self.now P M begins c.args.self.now.at _ _ c.from_residual.ensures.1 (module_no text c.args.self.now P M c.args.self.now.at st c.in_err-expect.ensures.0) c.in_err-expect.ensures.1

pub returns-then-len-min : goal.returns-then-len-min
returns-then-len-min c = λ text P M e st.
    let n = length c.args.self.now.titles.items in
    let many : (64 ≤ n) ⊎ (length M ≤ n) = elim (cases_lt n 64) [ inl h ↦ inr (omega (arith, c.if-len-min.true, c.len.ensures.value, c.min.ensures)) | inr h ↦ inl h ] in
    (module_many text c.args.self.now P M c.args.self.now.at st c.in_ok-expect.ensures many, refl)

pub returns : goal.returns
returns c = λ text P M e st. module_ok text c.args.self.now P M c.args.self.now.at st c.in_ok-expect.ensures
    (omega (arith, c.if-len-min.false, c.len.ensures.value, c.min.ensures)) (omega (arith, c.if-len-min.false, c.len.ensures.value, c.min.ensures))
