use Rattle.std.proofs.Common.{ℕ, ◌%◌, ap}
use Rattle.pair_table.specs.Pairs.{most_rows}
use Rattle.compare.specs.Indexed.{bucket_of}
use Rattle.compare.proofs.index.Index.bucket.Goals as goal

pub returns-clause-is : goal.returns-clause-is
unfolding bucket_of
returns-clause-is c = ap (λ (x : ℕ). x % most_rows) c.slot.ensures
