use Rattle.std.proofs.Common.{◌≡◌, ◌++◌, length, drop, string_bytes}
use Rattle.catalogue.specs.Catalogue.{Module}
use Rattle.report.specs.Text.{numbered}
use Rattle.comparison_text.specs.Text.{comparison_lines}
use Rattle.comparison_text.proofs.add_all.Given as goal

abbrev pub invariant-loop-new : goal.invariant-loop-new
invariant-loop-new g l =
    string_bytes l.out ++ numbered (λ new (m : Module). comparison_lines (g.C.Catalogue.meaning l.catalogue) (length l.initial.table) new) l.new (drop l.new (g.C.Catalogue.meaning l.catalogue))
    ≡ string_bytes l.initial.out ++ numbered (λ new (m : Module). comparison_lines (g.C.Catalogue.meaning l.catalogue) (length l.initial.table) new) 0 (g.C.Catalogue.meaning l.catalogue)
