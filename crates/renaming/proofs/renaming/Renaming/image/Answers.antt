use Rattle.std.proofs.Common.{◌≡◌, sym, ap, ◌∙◌, subst}
use Rattle.action.specs.Sets.{◌∋◌, members}
use Rattle.action.specs.Iterating.{coming}
use Rattle.renaming.specs.Renaming.{image}
use Rattle.renaming.proofs.Laws.{gathers, gathers_none, gathers_all, image_means}
use Rattle.renaming.proofs.renaming.Renaming.image.Goals as goal

pub returns : goal.returns
returns c =
    let f = c.args.self.entries in
    let s = c.args.set in
    let out = c.loop-action.out in
    let start : coming c.into_iter-action-iterator.result ≡ members s = ap coming c.into_iter-action-iterator.ensures.into_iter_gives ∙ c.iter-action-items.ensures in
    let is : out ≡ image f s = gathers_all f s out (λ a. ap (λ xs. gathers f out xs a) (sym c.in-None.ensures.steps.0) ∙ c.loop-action.invariant a ∙ ap (λ xs. gathers f c.empty-out.result xs a) start ∙ gathers_none f s c.empty-out.result c.empty-out.ensures a) in
    record {
      value = is;
      means = λ a. (let m = image_means f c.args.self.full s a in ((λ h. m.0 (subst (λ t. t ∋ a) is h)), (λ w. subst (λ t. t ∋ a) (sym is) (m.1 w))));
    }
