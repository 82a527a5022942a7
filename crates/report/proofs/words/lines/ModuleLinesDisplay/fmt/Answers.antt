use Rattle.std.proofs.Common.{◌≡◌, ℕ, List, Option, unwrap_or, ap, ◌∙◌, refl, arith}
use Rattle.std.proofs.Output.{has_written_of_eq}
use Rattle.catalogue.specs.Catalogue.{Catalogue, State, module_in, codes, start_of, absent, nowhere}
use Rattle.report.specs.Text.{state_line, numbered}
use Rattle.report.proofs.Lists.{asked, module_head, module_then}
use Rattle.report.proofs.Writing.{next_numbered, all_numbered}
use Rattle.report.proofs.words.lines.ModuleLinesDisplay.fmt.Goals as goal

pub loop-code-preserved : goal.loop-code-preserved
loop-code-preserved g c p =
    let ms : Catalogue = g.C.Catalogue.meaning c.args.self.now.catalogue.now in
    let part : ℕ = c.args.self.now.part in
    let n : c.unwrap_or-codes.result ≡ codes (module_in ms part) = c.unwrap_or-codes.ensures ∙ ap (λ (z : Option ℕ). unwrap_or z 0) c.codes.ensures ∙ asked codes ms part absent in
    let w = c.loop-code.invariant p in
    next_numbered g.W.Write.write_str_gives (state_line part) (module_in ms part).states nowhere c.loop-code.code _ _ _ _ (omega (arith, n, c.loop-code-test.true)) w (c.in_ok-write.ensures.writes w.wrote.plain refl)

pub returns-clause-writes : goal.returns-clause-writes
returns-clause-writes g c p e =
    let ms : Catalogue = g.C.Catalogue.meaning c.args.self.now.catalogue.now in
    let part : ℕ = c.args.self.now.part in
    let states : List State = (module_in ms part).states in
    let n : c.unwrap_or-codes.result ≡ codes (module_in ms part) = c.unwrap_or-codes.ensures ∙ ap (λ (z : Option ℕ). unwrap_or z 0) c.codes.ensures ∙ asked codes ms part absent in
    let b : c.unwrap_or-start.result ≡ start_of (module_in ms part) = c.unwrap_or-start.ensures ∙ ap (λ (z : Option ℕ). unwrap_or z 0) c.start.ensures ∙ asked start_of ms part absent in
    let h = c.in_ok-writeln.ensures.writes p refl in
    has_written_of_eq g.W.Write.write_str_gives _ _ _ _ (module_then part c.unwrap_or-codes.result c.unwrap_or-start.result (codes (module_in ms part)) (start_of (module_in ms part)) (numbered (state_line part) 0 states) n b)
    (all_numbered g.W.Write.write_str_gives (state_line part) states nowhere 0 c.loop-code.code (module_head part c.unwrap_or-codes.result c.unwrap_or-start.result) _ _ _ (omega (arith, n, c.loop-code-test.false)) h (c.loop-code.invariant h.plain))
