use Rattle.std.proofs.Common.{◌≡◌, ◌++◌, length, drop, string_bytes}
use Rattle.catalogue.specs.Catalogue.{Module}
use Rattle.report.specs.Text.{numbered}
use Rattle.comparison_text.specs.Text.{comparison_line, comparison_lines}
use Rattle.comparison_text.proofs.add_comparisons.Given as goal

abbrev pub invariant-loop-old : goal.invariant-loop-old
invariant-loop-old g l =
    string_bytes l.out ++ numbered (λ old (m : Module). comparison_line (g.C.Catalogue.meaning l.catalogue) (length l.initial.table) l.new old) l.old (drop l.old (g.C.Catalogue.meaning l.catalogue))
    ≡ string_bytes l.initial.out ++ comparison_lines (g.C.Catalogue.meaning l.catalogue) (length l.initial.table) l.new
