use Rattle.book_text.proofs.Viewing.{begins}
use Rattle.book_text.proofs.parser.Parser.new.Goals as goal

pub returns : goal.returns
returns c =
    let d = c.default.ensures in
    let s = d.1.1.0 in
    let t = d.1.1.1 in
    begins c.default.result d.0 s.0.long s.1.0 s.1.1 t.0 t.1.0 t.1.1.0.long t.1.1.1.0 t.1.1.1.1.0 t.1.1.1.1.1
