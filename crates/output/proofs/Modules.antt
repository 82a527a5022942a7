-- The modules of two files, shown one file after the other. Assumes nothing.
use Rattle.std.proofs.Common.{◌≡◌, ℕ, ◌+◌, ◌≤◌, true, List, ◌++◌, length, drop, IfOk, Some, None, string_bytes, Option, Result, String, refl, ap, ◌∙◌, arith, length-append}
use Rattle.std.specs.declared.alloc.AllocError.{AllocError}
use Rattle.std.specs.declared.alloc.Global.{Global}
use Rattle.std.proofs.Math.Seq.{drop-append_seam}
use Rattle.std.proofs.lemmas.List.{take_all, length-map}
use Rattle.std.proofs.lemmas.Result.{IfOk-weaker}
use Rattle.catalogue.specs.Catalogue.{Catalogue, most_modules}
use Rattle.catalogue.specs.Layers.{joined}
use Rattle.rows.specs.declared.row.Place.{Place}
use Rattle.rows.specs.declared.row.ModuleRow.{ModuleRow}
use Rattle.rows.specs.declared.fault.RowsFault.{RowsFault}
use Rattle.rows.specs.Opening.{module_at, fault, opened}
use Rattle.rows.proofs.Rules.{opened_is, nothing}
use Rattle.table_format.specs.Records.{meant_module}
use Rattle.table_format.specs.Reading.{meaning, module_records}
use Rattle.table_format.specs.Taking.{taken, most_table_modules}
use Rattle.table_format.proofs.Fine.{fine}
use Rattle.table_format.proofs.FromBytes.{count_modules}
use Rattle.table_format.proofs.Taken.{taken_none}
use Rattle.report.specs.Text.{catalogue_lines}
use Rattle.output.specs.Output.{book_name, table_name, modules_shown}
use Rattle.output.specs.Showing.{joined_shown}

-- where two catalogues fit into one, nothing is cut off the one behind
behind : (front back : Catalogue) → length front + length back ≤ most_modules → drop (length front) (joined front back) ≡ back
unfolding joined
behind front back l = ap (drop (length front)) (take_all most_modules (front ++ back) (omega (arith, l, length-append front back))) ∙ drop-append_seam front back

-- so they are shown as they stand
pub as_joined : (front front' back back' : Catalogue) → front ≡ front' → back ≡ back' → length front' + length back' ≤ most_modules → joined_shown front back ≡ modules_shown front' back'
as_joined front front' back back' ef eb l =
    ap (λ (ms : Catalogue). joined_shown ms back) ef ∙ ap (joined_shown front') eb
    ∙ ap (λ (ms : Catalogue). catalogue_lines book_name 0 front' ++ catalogue_lines table_name (length front') ms) (behind front' back' l)

-- and a text of them is that of what is asked
pub text_as : (r : Result (String Global) AllocError) (a b : List ℕ) → a ≡ b → IfOk r (λ s. string_bytes s ≡ a) → IfOk r (λ s. string_bytes s ≡ b)
text_as r a b e h = IfOk-weaker r (λ s. string_bytes s ≡ a) (λ s. string_bytes s ≡ b) (λ s w. w ∙ e) h

-- how many modules the files may have
pub opened_few : (ps : List Place) (ms : List ModuleRow) → length (opened ps ms) ≤ length ms
opened_few ps ms = go (fault ps ms) refl
  where
    go : (o : Option RowsFault) → fault ps ms ≡ o → length (opened ps ms) ≤ length ms
    go None e = omega (arith, ap length (opened_is ps ms e), length-map ms (module_at ps))
    go (Some x) e = omega (arith, ap length (nothing ps ms x e))

pub taken_few : (b : List ℕ) → taken b ≡ true → length (meaning b) ≤ most_table_modules
taken_few b h = omega (arith, (fine b (taken_none b h)).few, length-map (module_records b) meant_module, count_modules b)
