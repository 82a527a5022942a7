use Rattle.std.proofs.Common.{rules}
use Rattle.compare.specs.Indexed.{slot_of}
use Rattle.compare.proofs.index.Index.slot.Goals as goal

pub returns : goal.returns
unfolding slot_of
returns c = search rules
