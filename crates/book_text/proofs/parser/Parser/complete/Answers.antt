use Rattle.std.proofs.Common.{ℕ, ◌+◌, ◌-◌, set, sym, ap, ◌∙◌, subst}
use Rattle.book_text.specs.declared.parser.Open.{Open}
use Rattle.book_text.specs.Parsers.{op_at}
use Rattle.book_text.specs.Stacks.{place_for}
use Rattle.book_text.proofs.Completing.{Completing, completing_more}
use Rattle.book_text.proofs.parser.Parser.complete.Goals as goal

pub loop-i-preserved : goal.loop-i-preserved
loop-i-preserved c =
    let d = c.args.self.now in
    let s = d.stack in
    let l = c.loop-i in
    subst (λ (k : ℕ). Completing s.ops c.args.low d.first d.rows s.pending c.args.places.now (l.n + 1) (l.i - 1) (set l.places (d.first + k) c.before-in-loop-i.result))
    (sym c.from.ensures)
    (completing_more s.ops c.args.low d.first d.rows s.pending c.args.places.now l.n l.i l.places c.before-in-loop-i.result c.requires.room c.loop-i-test.true
    (c.before-in-loop-i.ensures ∙ ap (λ (o : Open). place_for o c.saturating_sub.result) c.op_at.ensures ∙ ap (λ (k : ℕ). place_for (op_at s.ops (l.i - 1)) k) c.saturating_sub.ensures)
    l.invariant)
