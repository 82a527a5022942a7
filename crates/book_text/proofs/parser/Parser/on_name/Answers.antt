use Rattle.std.proofs.Common.{length, refl}
use Rattle.arrayvec.specs.ArrayVec.{ArrayVec}
use Rattle.book_words.specs.Words.Kind.{name}
use Rattle.book_text.specs.declared.parser.Label.{Label}
use Rattle.book_text.specs.declared.parser.Parser.{Parser}
use Rattle.book_text.specs.Parsers.{view}
use Rattle.book_text.proofs.Naming.{name_no, title_fails, title_ok, left_fails, left_ok}
use Rattle.book_text.proofs.Trying.{refuses}
use Rattle.book_text.proofs.parser.Parser.on_name.Goals as goal

-- a parser that has other labels
abbrev with_labels : ArrayVec Label → ArrayVec Label → Parser → Parser
with_labels lefts titles d = record {
  state = d.state;
  at = d.at;
  stack = d.stack;
  first = d.first;
  rows = d.rows;
  names = d.names;
  lefts = lefts;
  titles = titles;
  done = d.done;
}

pub returns-in_err-add-in-Title : goal.returns-in_err-add-in-Title
returns-in_err-add-in-Title c = λ sp M st.
    let d = c.args.self.now in
    let P = c.args.places.now in
    let d' = with_labels d.lefts c.add.new.labels d in
    refuses (length P) (length M) (length c.args.text.now) (view c.args.text.now d P M) (name c.args.x.now) c.args.self.now.at (view c.args.text.now d' P M) d' _ c.from_residual.result
    c.from_residual.ensures.1 (title_fails c.args.text.now d P M c.args.self.now.at st c.args.x.now _ c.in-Title.is c.in_err-add-in-Title.ensures)

pub returns-in_err-add-in-Left : goal.returns-in_err-add-in-Left
returns-in_err-add-in-Left c = λ sp M st.
    let d = c.args.self.now in
    let P = c.args.places.now in
    let d' = with_labels c.add-in-Left.new.labels d.titles d in
    refuses (length P) (length M) (length c.args.text.now) (view c.args.text.now d P M) (name c.args.x.now) c.args.self.now.at (view c.args.text.now d' P M) d' _ c.from_residual-in_err-add-in-Left.result
    c.from_residual-in_err-add-in-Left.ensures.1 (left_fails c.args.text.now d P M c.args.self.now.at st c.args.x.now _ c.in-Left.is c.in_err-add-in-Left.ensures)

pub returns-in_ok-add-in-Title : goal.returns-in_ok-add-in-Title
returns-in_ok-add-in-Title c = λ sp M st.
    title_ok c.args.text.now c.args.self.now c.args.places.now M c.args.self.now.at st c.args.x.now c.add.new.labels.items c.in-Title.is sp c.in_ok-add-in-Title.ensures

pub returns-in_ok-add-in-Left : goal.returns-in_ok-add-in-Left
returns-in_ok-add-in-Left c = λ sp M st.
    left_ok c.args.text.now c.args.self.now c.args.places.now M c.args.self.now.at st c.args.x.now c.add-in-Left.new.labels.items c.in-Left.is sp c.in_ok-add-in-Left.ensures

pub returns-in_default : goal.returns-in_default
returns-in_default c = λ sp M st.
    (name_no c.args.text.now c.args.self.now c.args.places.now M c.args.self.now.at st c.args.x.now c.in_default.not-Title c.in_default.not-Left c.in_default.not-Term, refl)
