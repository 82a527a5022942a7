use Rattle.std.proofs.Common.{ℕ, ◌-◌, ◌≡◌, Option, MutBor, IfSome, slice_index_or, refl, ap, ◌∙◌, subst, rules, tests}
use Rattle.book_text.specs.declared.parser.Label.{Label}
use Rattle.book_words.specs.Words.Kind.{ends}
use Rattle.book_text.proofs.Terms.{ends_no, ends_inside, ends_at}
use Rattle.book_text.proofs.Trying.{not_here}
use Rattle.book_text.proofs.parser.Parser.on_ends.Goals as goal

pub returns-in_err-expect : goal.returns-in_err-expect
returns-in_err-expect c = λ text P M st.
    not_here text c.args.self.now P M ends c.args.self.now.at _ _ c.from_residual.ensures.1 (ends_no text c.args.self.now P M c.args.self.now.at st c.in_err-expect.ensures.0) c.in_err-expect.ensures.1

pub returns-then-not-is_empty : goal.returns-then-not-is_empty
returns-then-not-is_empty c = λ text P M st. (ends_inside text c.args.self.now P M c.args.self.now.at st c.in_ok-expect.ensures (let e = c.if-not-is_empty.ensures in search (tests, rules)), refl)

pub returns : goal.returns
returns c = λ text P M st.
    ends_at text c.args.self.now P M c.args.self.now.at st _ _ c.in_ok-label.label.now c.saturating_sub-label.ensures (c.saturating_sub-last.ensures ∙ ap (λ (n : ℕ). n - 1) c.len.ensures.value)
    c.in_ok-expect.ensures (let e = c.if-not-is_empty.ensures in search (tests, rules)) (subst (λ (o : Option (MutBor Label)). IfSome o (λ x. x.now ≡ slice_index_or c.args.self.now.lefts.items c.saturating_sub-last.result x.now)) c.in_ok-label.ensures.ok_part c.get_mut.ensures.value)
