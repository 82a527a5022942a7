use Rattle.std.proofs.Common.{◌≡◌, true, false, rules}
use Rattle.std.proofs.lemmas.Iterator.{first_from_Range}
use Rattle.renaming.proofs.Taking.{before, first_shared_is}
use Rattle.renaming.proofs.renaming.making.first_shared.Goals as goal

pub returns : goal.returns
returns c =
    let f = c.args.entries.now in
    first_shared_is f c.find.result
    (first_from_Range _ _ _ c.find.result (λ i. true ≡ before f i) (λ i. false ≡ before f i) c.find.ensures.ran (λ x q k. search rules) (λ x q k. (search rules, search rules)))
