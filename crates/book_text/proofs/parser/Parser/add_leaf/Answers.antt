use Rattle.std.proofs.Common.{ℕ, ◌+◌, set, subst, arith}
use Rattle.book_text.specs.Parsers.{rows_in}
use Rattle.book_text.specs.Stacks.{waiting_on}
use Rattle.book_text.specs.Changes.{Finishes}
use Rattle.book_text.proofs.Terms.{with_rows, leaf_put}
use Rattle.book_text.proofs.parser.Parser.add_leaf.Goals as goal

pub returns : goal.returns
returns c =
    let d = c.args.self.now in
    let P = c.args.places.now in
    let room = c.in_ok-room.ensures.1 in
    leaf_put d P c.args.leaf c.args.self.now.at c.finish.new.self c.finish.new.places _ c.finish.result (omega arith)
    (subst (λ (k : ℕ). Finishes (with_rows (d.rows + 1) d) d.stack (set P (d.first + k) c.args.leaf) (rows_in d.first (d.rows + 1) (set P (d.first + k) c.args.leaf)) c.args.self.now.at
    c.finish.new.self c.finish.new.places (d.rows + 1 + waiting_on d.stack) c.finish.result) c.from.ensures c.finish.ensures)
