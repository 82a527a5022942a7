use Rattle.std.proofs.Common.{ap}
use Rattle.rows.specs.Opening.{verdict_of}
use Rattle.book.proofs.Modules.{fault_here, fault_none, handed_on}
use Rattle.book.proofs.opening.try_rows.Goals as goal

pub returns-in_err-try_module : goal.returns-in_err-try_module
returns-in_err-try_module c =
    let rows = c.args.places.now in
    let ms = c.args.modules.now in
    let e = c.in_err-try_module.field-0.0 in
    handed_on rows ms e c.from_residual.result c.from_residual.ensures.1 (fault_here rows ms c.loop-part.part e c.loop-part-test.true c.loop-part.invariant c.in_err-try_module.ensures)

pub returns : goal.returns
returns c = ap verdict_of (fault_none c.args.places.now c.args.modules.now c.loop-part.part c.loop-part-test.false c.loop-part.invariant)
