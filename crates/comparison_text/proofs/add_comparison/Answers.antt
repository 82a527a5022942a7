use Rattle.std.proofs.Common.{length, string_bytes, arith}
use Rattle.comparison_text.proofs.Rows.{pairs_fit, compared_shown, refused_shown}
use Rattle.comparison_text.proofs.add_comparison.Goals as goal

pub slice_bounds-add_rows-end : goal.slice_bounds-add_rows-end
slice_bounds-add_rows-end g c = omega (arith, pairs_fit (g.C.Catalogue.meaning c.args.catalogue.now) c.args.new c.args.old (length c.args.table.now) c.in-Ok.found c.in-Ok.ensures.answer, c.compare-answer.auto.table)

pub returns-in-Ok : goal.returns-in-Ok
returns-in-Ok g c =
    compared_shown c.add_rows.result (g.C.Catalogue.meaning c.args.catalogue.now) c.args.new c.args.old c.args.table.now c.compare-answer.new.table c.in-Ok.found c.compare-answer.result (string_bytes c.args.out.now) (string_bytes c.add_answer.new.out) (string_bytes c.add_rows.new.out)
    c.in-Ok.ensures.answer c.compare-answer.ensures.table c.compare-answer.ensures.answer c.in_ok-add_answer.ensures c.add_rows.ensures

pub returns-in-Err : goal.returns-in-Err
returns-in-Err g c =
    refused_shown (g.C.Catalogue.meaning c.args.catalogue.now) c.args.new c.args.old (length c.args.table.now) c.in-Err.field-0 c.compare-answer.result (string_bytes c.args.out.now) (string_bytes c.add_answer.new.out)
    c.in-Err.ensures.answer c.compare-answer.ensures.answer c.in_ok-add_answer.ensures
