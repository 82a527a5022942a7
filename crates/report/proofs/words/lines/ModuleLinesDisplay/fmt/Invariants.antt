use Rattle.std.proofs.Common.{drop}
use Rattle.std.specs.Fmt.{IsPlainFormatter}
use Rattle.catalogue.specs.Catalogue.{module_in}
use Rattle.report.specs.Text.{state_line, numbered}
use Rattle.report.proofs.Writing.{Writing}
use Rattle.report.proofs.words.lines.ModuleLinesDisplay.fmt.Given as goal

abbrev pub invariant-loop-code : goal.invariant-loop-code
invariant-loop-code g l =
    IsPlainFormatter l.initial.f → Writing g.W.Write.write_str_gives l.initial.f (numbered (state_line l.part) 0 (module_in (g.C.Catalogue.meaning l.self.catalogue.now) l.part).states) (numbered (state_line l.part) l.code (drop l.code (module_in (g.C.Catalogue.meaning l.self.catalogue.now) l.part).states)) l.f
