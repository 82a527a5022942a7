use Rattle.std.proofs.Common.{refl}
use Rattle.book_text.proofs.Passing.{bad_no, port_fails}
use Rattle.book_words.specs.Words.Kind.{bad}
use Rattle.book_text.proofs.Trying.{not_here}
use Rattle.book_text.proofs.parser.Parser.on_bad.Goals as goal

pub returns-in_err-expect : goal.returns-in_err-expect
returns-in_err-expect c = λ text P M st.
    not_here text c.args.self.now P M bad c.args.self.now.at _ _ c.from_residual.ensures.1 (bad_no text c.args.self.now P M c.args.self.now.at st c.in_err-expect.ensures.0) c.in_err-expect.ensures.1

pub returns : goal.returns
returns c = λ text P M st. (port_fails text c.args.self.now P M c.args.self.now.at st c.in_ok-expect.ensures, refl)
