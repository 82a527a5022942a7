use Rattle.std.proofs.Common.{◌<◌, ℕ, MatchOption, Option, get_or, sym, ap, ◌∙◌, subst}
use Rattle.compare.specs.Rows.{Is, Absent}
use Rattle.compare.specs.Indexed.{row_at}
use Rattle.compare.proofs.Chains.{alone_found}
use Rattle.compare.proofs.filled.Filled.find.Goals as goal

pub returns-then-is_alone : goal.returns-then-is_alone
returns-then-is_alone c =
    subst (λ (o : Option ℕ). MatchOption o (Absent c.args.self.now.rows.now c.args.self.now.count c.args.new c.args.old) (λ i. (i < c.args.self.now.count) × Is c.args.self.now.rows.now i c.args.new c.args.old))
    (sym (c.linked.ensures ∙ ap (λ (b : ℕ). row_at (get_or c.args.self.now.index.now.heads b 0)) c.bucket.ensures.is))
    (alone_found c.args.self.now.index.now c.args.self.now.rows.now c.args.self.now.count c.args.new c.args.old c.args.self.now.indexed c.if-index.true c.if-is_alone.ensures)
