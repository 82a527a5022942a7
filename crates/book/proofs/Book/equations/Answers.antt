use Rattle.std.proofs.Common.{ap, arith, rules}
use Rattle.rows.specs.declared.row.ModuleRow.{ModuleRow}
use Rattle.book.proofs.Answering.{count_at_fault, no_fault, count_is, none_wrong, held_row, held_part, held_few, its_known}
use Rattle.book.proofs.Book.equations.Goals as goal

pub returns-then-is_some : goal.returns-then-is_some
returns-then-is_some c = let b = c.args.self.now in omega (arith, count_at_fault b.places.now b.modules.now b.verdict b.tried c.if-is_some.ensures)

pub returns-in_err-row : goal.returns-in_err-row
returns-in_err-row c =
    let b = c.args.self.now in
    let n = count_is b.places.now b.modules.now (no_fault b.places.now b.modules.now b.verdict b.tried c.if-is_some.ensures) in
    rw c.from_residual.ensures (omega (arith, c.in_err-row.ensures.lookup.3))

pub overflow_add-result : goal.overflow_add-result
overflow_add-result c = let l = (held_row c.args.self.now c.args.part c.in_ok-row.field-0.now c.if-is_some.ensures c.in_ok-row.ensures.lookup.3).lent in search rules

pub offset_bounds-self-row : goal.offset_bounds-self-row
offset_bounds-self-row c = let l = (held_row c.args.self.now c.args.part c.in_ok-row.field-0.now c.if-is_some.ensures c.in_ok-row.ensures.lookup.3).lent in search rules

pub slice_bounds-result-end : goal.slice_bounds-result-end
slice_bounds-result-end c = let l = (held_row c.args.self.now c.args.part c.in_ok-row.field-0.now c.if-is_some.ensures c.in_ok-row.ensures.lookup.3).lent in search rules

pub offset_bounds-table-part : goal.offset_bounds-table-part
offset_bounds-table-part c = let l = (held_row c.args.self.now c.args.part c.in_ok-row.field-0.now c.if-is_some.ensures c.in_ok-row.ensures.lookup.3).few_modules in search rules

pub bounds-table-part : goal.bounds-table-part
bounds-table-part c = let l = (held_row c.args.self.now c.args.part c.in_ok-row.field-0.now c.if-is_some.ensures c.in_ok-row.ensures.lookup.3).few_modules in search rules

pub invariant_of-result : goal.invariant_of-result
invariant_of-result c = record { few = held_few c.args.self.now c.args.part c.in_ok-row.field-0.now c.if-is_some.ensures c.in_ok-row.ensures.lookup.3; known = its_known c.args.self.now c.args.part c.in_ok-row.field-0.now c.if-is_some.ensures c.in_ok-row.ensures.lookup.3 }

pub returns : goal.returns
returns c = (none_wrong c.args.self.now c.args.part c.in_ok-row.field-0.now c.if-is_some.ensures c.in_ok-row.ensures.lookup.3, c.in_ok-row.ensures.lookup.3.0, held_part c.args.self.now c.args.part c.in_ok-row.field-0.now c.if-is_some.ensures c.in_ok-row.ensures.lookup.3, ap (λ (r : ModuleRow). r.start) (c.in_ok-row.ensures.lookup.3.1 _))
