use Rattle.std.proofs.Common.{length, string_bytes, ap, ◌∙◌}
use Rattle.catalogue.specs.Catalogue.{Catalogue, Module}
use Rattle.report.specs.Text.{numbered}
use Rattle.comparison_text.specs.Text.{comparison_lines, comparisons}
use Rattle.comparison_text.proofs.Rows.{first_text}
use Rattle.comparison_text.proofs.comparisons_text.Goals as goal

pub returns : goal.returns
unfolding comparisons
returns g c =
    let ms : Catalogue = g.C.Catalogue.meaning c.args.catalogue.now in
    first_text (string_bytes c.new-lines.result) (string_bytes c.add_all.new.out) (numbered (λ new (m : Module). comparison_lines ms (length c.deref_mut.result.now) new) 0 ms) (comparisons ms) c.new-lines.ensures.bytes c.in_ok-add_all.ensures
    (ap (λ n. numbered (λ new (m : Module). comparison_lines ms n new) 0 ms) (c.deref_mut.ensures.len ∙ c.in_ok-table.ensures.len))
