use Rattle.std.proofs.Common.{◌≡◌, sym, ap, ◌∙◌}
use Rattle.action.specs.Sets.{members}
use Rattle.action.specs.Iterating.{coming}
use Rattle.line_rules.proofs.Gathering.{lets, lets_all}
use Rattle.line.specs.Meaning.{line_of}
use Rattle.line.proofs.lines.Line.shown.Goals as goal

pub returns : goal.returns
returns c =
    let line = line_of c.args.self.now in
    let s = c.args.set in
    let out = c.loop-action.out in
    let start : coming c.into_iter-action-iterator.result ≡ members s = ap coming c.into_iter-action-iterator.ensures.into_iter_gives ∙ c.iter-action-items.ensures in
    lets_all line s c.empty-out.result out c.empty-out.ensures
    (λ a. ap (λ xs. lets line out xs a) (sym c.in-None.ensures.steps.0) ∙ c.loop-action.invariant a ∙ ap (λ xs. lets line c.empty-out.result xs a) start)
