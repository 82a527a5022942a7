use Rattle.std.proofs.Common.{drop}
use Rattle.std.specs.Fmt.{IsPlainFormatter}
use Rattle.report.specs.Text.{module_lines, numbered}
use Rattle.report.proofs.Writing.{Writing}
use Rattle.report.proofs.words.lines.CatalogueTextDisplay.fmt.Given as goal

abbrev pub invariant-loop-part : goal.invariant-loop-part
invariant-loop-part g l =
    IsPlainFormatter l.initial.f → Writing g.W.Write.write_str_gives l.initial.f (numbered module_lines l.self.first (drop l.self.first (g.C.Catalogue.meaning l.self.catalogue.now))) (numbered module_lines l.part (drop l.part (g.C.Catalogue.meaning l.self.catalogue.now))) l.f
