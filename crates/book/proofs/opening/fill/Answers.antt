use Rattle.std.proofs.Common.{◌≡◌, ℕ, ◌<◌, List, None, ◌∙◌, ap, arith, length-set, rules}
use Rattle.rows.specs.declared.row.Place.{Place}
use Rattle.rows.specs.declared.row.ModuleRow.{ModuleRow}
use Rattle.rows.specs.Opening.{module_fault, row_of, verdict_of}
use Rattle.rows.proofs.Accepted.{accepted}
use Rattle.book.proofs.Modules.{fault_here, fault_later, fault_none, keeps_more, handed_on}
use Rattle.book.proofs.opening.fill.Goals as goal

few : (rows : List Place) (ms : List ModuleRow) (m : ℕ) → module_fault rows m (row_of ms m) ≡ None → m < 64
few rows ms m none = (accepted rows m (row_of ms m) none).few_modules

pub offset_bounds-table-part : goal.offset_bounds-table-part
offset_bounds-table-part c = let l = few c.args.places.now c.args.modules.now c.loop-part.part c.in_ok-table.ensures.0 in search rules

pub bounds-table-part : goal.bounds-table-part
bounds-table-part c = let l = few c.args.places.now c.args.modules.now c.loop-part.part c.in_ok-table.ensures.0 in search rules

pub loop-part-preserved : goal.loop-part-preserved
loop-part-preserved c =
    let rows = c.args.places.now in
    let ms = c.args.modules.now in
    let n = c.loop-part.invariant.0 in
    (length-set c.loop-part.table.rows c.loop-part.part c.in_ok-table.field-0 ∙ n, fault_later rows ms c.loop-part.part c.loop-part-test.true c.loop-part.invariant.1 c.in_ok-table.ensures.0, keeps_more rows ms c.loop-part.part c.loop-part.table.rows c.in_ok-table.field-0 (omega (arith, few rows ms c.loop-part.part c.in_ok-table.ensures.0)) c.loop-part.invariant.2 c.in_ok-table.ensures.1)

pub returns-in_err-table-clause-judged : goal.returns-in_err-table-clause-judged
returns-in_err-table-clause-judged c =
    let rows = c.args.places.now in
    let ms = c.args.modules.now in
    let e = c.in_err-table.field-0.0 in
    handed_on rows ms e c.from_residual.result c.from_residual.ensures.1 (fault_here rows ms c.loop-part.part e c.loop-part-test.true c.loop-part.invariant.1 c.in_err-table.ensures)

pub returns-clause-judged : goal.returns-clause-judged
returns-clause-judged c = ap verdict_of (fault_none c.args.places.now c.args.modules.now c.loop-part.part c.loop-part-test.false c.loop-part.invariant.1)

pub returns-clause-kept : goal.returns-clause-kept
returns-clause-kept c = λ q k l. c.loop-part.invariant.2 k (omega (arith, c.loop-part-test.false))
