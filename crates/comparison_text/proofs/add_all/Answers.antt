use Rattle.std.proofs.Common.{◌++◌, length, string_bytes, ap, ◌∙◌, arith}
use Rattle.catalogue.specs.Catalogue.{Catalogue, Module, absent}
use Rattle.report.proofs.Lists.{numbered_on, numbered_end}
use Rattle.comparison_text.specs.Text.{comparison_lines}
use Rattle.comparison_text.proofs.add_all.Goals as goal

pub loop-new-preserved : goal.loop-new-preserved
loop-new-preserved g c =
    let ms : Catalogue = g.C.Catalogue.meaning c.args.catalogue.now in
    numbered_on (λ new (m : Module). comparison_lines ms (length c.args.table.now) new) ms c.loop-new.new absent (string_bytes c.loop-new.out) (string_bytes c.add_comparisons.new.out) _ (omega (arith, c.modules-count.ensures))
    (c.in_ok-add_comparisons.ensures ∙ ap (λ n. string_bytes c.loop-new.out ++ comparison_lines ms n c.loop-new.new) c.loop-new.auto.table)
    c.loop-new.invariant

pub returns : goal.returns
returns g c =
    let ms : Catalogue = g.C.Catalogue.meaning c.args.catalogue.now in
    numbered_end (λ new (m : Module). comparison_lines ms (length c.args.table.now) new) ms c.loop-new.new (string_bytes c.loop-new.out) _ (omega (arith, c.modules-count.ensures, c.loop-new-test.false)) c.loop-new.invariant
