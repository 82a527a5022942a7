use Rattle.compare.proofs.Chains.{indexed_none}
use Rattle.compare.proofs.index.Index.empty.Goals as goal

pub returns : goal.returns
returns c = indexed_none c.args.spread
