use Rattle.std.proofs.Common.{◌≡◌, ◌+◌, get_or, sym, refl, ◌∙◌, subst, arith}
use Rattle.table_format.specs.Numbers.{pair}
use Rattle.table_format.specs.Reading.{codes_at}
use Rattle.table_format.proofs.Fine.{fine}
use Rattle.table_format.proofs.Numbers.{pair_read, pair_there}
use Rattle.maker_table.specs.Index.{Lengths}
use Rattle.maker_table.proofs.Lookup.{module_of}
use Rattle.maker_table.proofs.Places.{states_begin, modules_begin, table_short}
use Rattle.maker_table.proofs.index.places.Goals as goal

pub unwrap-requires : goal.unwrap-requires
unwrap-requires c = rw (c.pair_at.ensures ∙ pair_there c.args.bytes.now 1 (fine c.args.bytes.now c.requires).long) refl

pub offsets-requires-clause-in_bytes : goal.offsets-requires-clause-in_bytes
offsets-requires-clause-in_bytes c =
    let b = c.args.bytes.now in
    let n : c.unwrap.result ≡ pair b 1 = pair_read b 1 c.unwrap.result (sym c.unwrap.ensures ∙ c.pair_at.ensures) in
    subst (λ j. Lengths b j 3) (sym n) (modules_begin b (pair b 1) 3 (fine b c.requires).all_modules)

pub offsets-requires-clause-short : goal.offsets-requires-clause-short
offsets-requires-clause-short c = table_short c.args.bytes.now (λ i. omega (arith, c.type_inv.bytes i)) c.requires

pub unwrap-codes-requires : goal.unwrap-codes-requires
unwrap-codes-requires c =
    let b = c.args.bytes.now in
    let n : c.unwrap.result ≡ pair b 1 = pair_read b 1 c.unwrap.result (sym c.unwrap.ensures ∙ c.pair_at.ensures) in
    let os = c.deref-at-items.result.now in
    let f = module_of b c.unwrap.result c.loop-at.at-index os c.requires n (c.deref-at-items.ensures.value ∙ c.in_ok-modules.ensures) c.loop-at-test.true in
    rw (c.pair_at-in-loop-at.ensures ∙ pair_there b (get_or os c.loop-at.at-index 0 + 2) (omega (arith, f.count_in, f.inside))) refl

pub offsets-requires-in-loop-at-clause-in_bytes : goal.offsets-requires-in-loop-at-clause-in_bytes
offsets-requires-in-loop-at-clause-in_bytes c =
    let b = c.args.bytes.now in
    let n : c.unwrap.result ≡ pair b 1 = pair_read b 1 c.unwrap.result (sym c.unwrap.ensures ∙ c.pair_at.ensures) in
    let os = c.deref-at-items.result.now in
    let i = get_or os c.loop-at.at-index 0 in
    let f = module_of b c.unwrap.result c.loop-at.at-index os c.requires n (c.deref-at-items.ensures.value ∙ c.in_ok-modules.ensures) c.loop-at-test.true in
    let k : c.unwrap-codes.result ≡ codes_at b i = pair_read b (i + 2) c.unwrap-codes.result (sym c.unwrap-codes.ensures ∙ c.pair_at-in-loop-at.ensures) in
    subst (λ j. Lengths b j (i + 6)) (sym k) (states_begin b (codes_at b i) _ (codes_at b i) (i + 6) f.inside f.states)

pub offsets-requires-in-loop-at-clause-short : goal.offsets-requires-in-loop-at-clause-short
offsets-requires-in-loop-at-clause-short c = table_short c.args.bytes.now (λ i. omega (arith, c.type_inv.bytes i)) c.requires
