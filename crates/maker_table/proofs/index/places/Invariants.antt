use Rattle.std.proofs.Common.{◌≡◌, map, take, vec_items}
use Rattle.maker_table.specs.Index.{place_at, shown}
use Rattle.maker_table.proofs.index.places.Given as goal

abbrev pub invariant-loop-at : goal.invariant-loop-at
invariant-loop-at l = map shown (vec_items l.found) ≡ map (place_at l.bytes) (take l.at-index l.at-items)
