use Rattle.book_text.proofs.Terms.{nil_no, nil_does}
use Rattle.book_words.specs.Words.Kind.{nil}
use Rattle.book_text.proofs.Trying.{not_here}
use Rattle.book_text.proofs.parser.Parser.on_nil.Goals as goal

pub returns-in_err-expect : goal.returns-in_err-expect
returns-in_err-expect c = λ text M st.
    not_here text c.args.self.now c.args.places.now M nil c.args.self.now.at _ _ c.from_residual.ensures.1 (nil_no text c.args.self.now c.args.places.now M c.args.self.now.at st c.in_err-expect.ensures.0) c.in_err-expect.ensures.1

pub returns : goal.returns
returns c = λ text M st.
    nil_does text c.args.self.now c.args.places.now M c.args.self.now.at st c.add_leaf.new.self c.add_leaf.new.places c.add_leaf.result
    c.in_ok-expect.ensures c.add_leaf.ensures
