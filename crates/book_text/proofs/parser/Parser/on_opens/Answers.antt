use Rattle.std.proofs.Common.{refl, rules, tests}
use Rattle.book_words.specs.Words.Kind.{opens}
use Rattle.book_text.proofs.Terms.{opens_no, opens_many, opens_ok}
use Rattle.book_text.proofs.Trying.{not_here}
use Rattle.book_text.proofs.parser.Parser.on_opens.Goals as goal

pub returns-in_err-expect : goal.returns-in_err-expect
returns-in_err-expect c = λ text P M st.
    not_here text c.args.self.now P M opens c.args.self.now.at _ _ c.from_residual.ensures.1 (opens_no text c.args.self.now P M c.args.self.now.at st c.in_err-expect.ensures.0) c.in_err-expect.ensures.1

pub returns-then-is_full : goal.returns-then-is_full
returns-then-is_full c = λ text P M st. (opens_many text c.args.self.now P M c.args.self.now.at st c.in_ok-expect.ensures (search (tests, rules)), refl)

pub returns : goal.returns
returns c = λ text P M st. opens_ok text c.args.self.now P M c.args.self.now.at st _ c.in_ok-expect.ensures (let e = c.if-is_full.ensures in search (tests, rules)) c.push.ensures.items
