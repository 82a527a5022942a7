use Rattle.std.proofs.Common.{refl, arith, rules}
use Rattle.compare.proofs.Chains.{indexed_more}
use Rattle.compare.proofs.Growth.{found, not_found, grew_more, full_now, modest_more}
use Rattle.compare.proofs.filled.Filled.admit.Goals as goal
use Rattle.compare.proofs.filled.Filled.admit.Goals.{then-self-via-then-self, then-self-via-else-self+then-self-ge-MOST_ROWS}

pub returns-then-is_some : goal.returns-then-is_some
returns-then-is_some c = found c.args.self.now c.args.new c.args.old c.find.result (search rules) c.find.ensures

pub returns-then-self : goal.returns-then-self
returns-then-self c =
    full_now c.args.self.now c.args.new c.args.old (not_found c.args.self.now c.args.new c.args.old c.find.result (search rules) c.find.ensures)
    (elim c.then-self.branch [
      | then-self-via-then-self w ↦ (let t = w.if-self.true in omega arith)
      | then-self-via-else-self+then-self-ge-MOST_ROWS w ↦ (let t = w.if-self-ge-MOST_ROWS.true in omega arith)
    ])

pub invariant_of-self : goal.invariant_of-self
invariant_of-self c =
    record {
      indexed = indexed_more c.args.self.now.index.now c.link.new.self c.args.self.now.rows.now c.args.self.now.count c.args.new c.args.old c.args.self.now.indexed
          c.if-self.false c.if-self-ge-MOST_ROWS.false (not_found c.args.self.now c.args.new c.args.old c.find.result (search rules) c.find.ensures)
          c.link.ensures.spread c.link.ensures.exact c.link.ensures.heads c.link.ensures.next;
      modest = modest_more _ _ _ _ (omega arith) c.args.self.now.modest;
    }

pub returns : goal.returns
returns c =
    grew_more c.args.self.now _ c.args.new c.args.old (omega arith) (not_found c.args.self.now c.args.new c.args.old c.find.result (search rules) c.find.ensures) refl refl refl
