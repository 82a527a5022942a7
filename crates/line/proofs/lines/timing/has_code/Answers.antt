use Rattle.std.proofs.Common.{◌≡◌, false, ltb, MatchOption, rules}
use Rattle.line.proofs.Codes.{code_told}
use Rattle.line.proofs.lines.timing.has_code.Goals as goal

pub returns : goal.returns
returns g c =
    let told : MatchOption c.codes.result (c.is_some_and.result ≡ false) (λ n. c.is_some_and.result ≡ ltb c.args.code n) = search rules in
    code_told (g.C.Catalogue.meaning c.args.catalogue.now) c.args.part c.args.code c.codes.result c.is_some_and.result c.codes.ensures told
