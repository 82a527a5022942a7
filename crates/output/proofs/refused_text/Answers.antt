use Rattle.std.proofs.Common.{rules}
use Rattle.output.proofs.Shown.{refused_printed}
use Rattle.output.proofs.refused_text.Goals as goal

pub returns : goal.returns
returns c = refused_printed c.format.result c.args.why (λ e. search rules) (search rules)
