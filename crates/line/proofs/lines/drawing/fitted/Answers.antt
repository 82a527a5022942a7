use Rattle.std.proofs.Common.{ap, arith}
use Rattle.std.proofs.lemmas.Result.{err_from_is_err_and}
use Rattle.catalogue.specs.Catalogue.{Catalogue}
use Rattle.line_rules.proofs.Drawn.{renaming_fault, module_fault, no_slot_fault}
use Rattle.line.specs.Meaning.{wired_so}
use Rattle.line.proofs.lines.drawing.fitted.Goals as goal

pub returns-in_err-renaming : goal.returns-in_err-renaming
returns-in_err-renaming g c =
    let ms : Catalogue = g.C.Catalogue.meaning c.args.catalogue.now in
    let p = err_from_is_err_and c.from_residual.result c.from_residual.ensures.1 in
    rw (p.1, p.2) (renaming_fault ms (wired_so c.args.holds c.args.entries.now) c.in_err-renaming.field-0.0 c.in_err-renaming.ensures.made)

pub returns-then-holds-modules : goal.returns-then-holds-modules
returns-then-holds-modules g c =
    let ms : Catalogue = g.C.Catalogue.meaning c.args.catalogue.now in
    module_fault ms (wired_so c.args.holds c.args.entries.now) c.in_ok-renaming.ensures.made.0 (omega (arith, c.modules.ensures, c.if-holds-modules.true))

pub returns : goal.returns
returns g c =
    let ms : Catalogue = g.C.Catalogue.meaning c.args.catalogue.now in
    (no_slot_fault ms (wired_so c.args.holds c.args.entries.now) c.in_ok-renaming.ensures.made.0 (omega (arith, c.modules.ensures, c.if-holds-modules.false)), ap (wired_so c.args.holds) c.in_ok-renaming.ensures.made.1)
