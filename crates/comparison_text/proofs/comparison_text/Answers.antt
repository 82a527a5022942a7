use Rattle.std.proofs.Common.{length, string_bytes, ap, ◌∙◌}
use Rattle.catalogue.specs.Catalogue.{Catalogue}
use Rattle.comparison_text.specs.Text.{comparison_within, comparison}
use Rattle.comparison_text.proofs.Rows.{first_text}
use Rattle.comparison_text.proofs.comparison_text.Goals as goal

pub returns : goal.returns
unfolding comparison
returns g c =
    let ms : Catalogue = g.C.Catalogue.meaning c.args.catalogue.now in
    first_text (string_bytes c.new-out.result) (string_bytes c.add_comparison.new.out) (comparison_within ms (length c.deref_mut.result.now) c.args.new c.args.old) (comparison ms c.args.new c.args.old) c.new-out.ensures.bytes c.in_ok-add_comparison.ensures
    (ap (λ n. comparison_within ms n c.args.new c.args.old) (c.deref_mut.ensures.len ∙ c.in_ok-table.ensures.len))
