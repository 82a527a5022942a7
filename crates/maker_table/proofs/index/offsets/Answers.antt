use Rattle.std.proofs.Common.{◌≡◌, ◌+◌, ◌-◌, vec_items, sym, refl, ◌∙◌, subst, arith}
use Rattle.table_format.specs.Reading.{after}
use Rattle.table_format.proofs.Numbers.{after_read, after_there}
use Rattle.maker_table.specs.Index.{Lengths}
use Rattle.maker_table.proofs.Places.{next_begins, offsets_on}
use Rattle.maker_table.proofs.index.offsets.Goals as goal

pub overflow_cast-at : goal.overflow_cast-at
overflow_cast-at c = omega (arith, (next_begins c.args.bytes.now (c.args.count - c.loop.counter) (c.args.count - (c.loop.counter + 1)) c.loop.at (omega arith) c.loop.invariant.begin).0)

pub unwrap-at-requires : goal.unwrap-at-requires
unwrap-at-requires c =
    let b = c.args.bytes.now in
    rw (c.after.ensures ∙ after_there b c.loop.at (next_begins b (c.args.count - c.loop.counter) (c.args.count - (c.loop.counter + 1)) c.loop.at (omega arith) c.loop.invariant.begin).0) refl

pub loop-preserved : goal.loop-preserved
loop-preserved c =
    let b = c.args.bytes.now in
    let j = c.args.count - (c.loop.counter + 1) in
    let t : c.unwrap-at.result ≡ after b c.loop.at = after_read b c.loop.at c.unwrap-at.result (sym c.unwrap-at.ensures ∙ c.after.ensures) in
    record {
      begin = subst (Lengths b j) (sym t) (next_begins b (c.args.count - c.loop.counter) j c.loop.at (omega arith) c.loop.invariant.begin).1;
      listed = offsets_on b (c.args.count - c.loop.counter) j c.loop.at c.unwrap-at.result (vec_items c.loop.found) (vec_items c.push.new.self) _ (omega arith) t c.in_ok-push.ensures.items c.loop.invariant.listed;
    }
