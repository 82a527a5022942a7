use Rattle.std.proofs.Common.{◌≡◌, ℕ, List, ◌++◌, length, drop, codes as ascii, decimal, ap, ◌∙◌, refl, arith}
use Rattle.std.proofs.Output.{has_written_of_eq}
use Rattle.std.proofs.lemmas.List.{append_assoc, length-drop}
use Rattle.catalogue.specs.Catalogue.{Catalogue, absent}
use Rattle.report.specs.Text.{module_lines, catalogue_lines, numbered}
use Rattle.report.proofs.Writing.{next_numbered, all_numbered}
use Rattle.report.proofs.words.lines.CatalogueTextDisplay.fmt.Goals as goal

pub loop-part-preserved : goal.loop-part-preserved
loop-part-preserved g c p =
    let ms : Catalogue = g.C.Catalogue.meaning c.args.self.now.catalogue.now in
    let w = c.loop-part.invariant p in
    next_numbered g.W.Write.write_str_gives module_lines ms absent c.loop-part.part _ _ _ _ (omega (arith, c.modules-end.ensures, c.loop-part-test.true)) w (c.in_ok-write.ensures.writes w.wrote.plain refl)

abbrev head : List ℕ → ℕ → List ℕ
head name n = name ++ (ascii ": modules " ++ (decimal n ++ ascii "\n"))

under : (name : List ℕ) (n k : ℕ) (r : List ℕ) → n ≡ k → head name n ++ r ≡ name ++ (ascii ": modules " ++ (decimal k ++ (ascii "\n" ++ r)))
under name n k r e = ap (λ j. head name j ++ r) e ∙ simp append_assoc

pub returns-clause-writes : goal.returns-clause-writes
unfolding catalogue_lines
returns-clause-writes g c p e =
    let ms : Catalogue = g.C.Catalogue.meaning c.args.self.now.catalogue.now in
    let first : ℕ = c.args.self.now.first in
    let n : c.saturating_sub-count.result ≡ length (drop first ms) = omega (arith, c.saturating_sub-count.ensures, c.modules-end.ensures, length-drop first ms) in
    let h = c.in_ok-writeln.ensures.writes p refl in
    has_written_of_eq g.W.Write.write_str_gives _ _ _ _ (under c.args.self.now.name.now c.saturating_sub-count.result (length (drop first ms)) (numbered module_lines first (drop first ms)) n)
    (all_numbered g.W.Write.write_str_gives module_lines ms absent first c.loop-part.part (head c.args.self.now.name.now c.saturating_sub-count.result) _ _ _ (omega (arith, c.modules-end.ensures, c.loop-part-test.false)) h (c.loop-part.invariant h.plain))
