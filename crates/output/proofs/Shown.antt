-- What is shown of the two files in each case. Assumes nothing.
use Rattle.std.proofs.Common.{◌≡◌, ℕ, ◌<◌, ◌≤◌, Bool, true, false, ◌⊎◌, List, ◌++◌, length, take, drop, IfOk, codes as ascii, decimal, unwrap_or, refl, Some, None, string_bytes, Option, Result, String, sym, ap, subst, ◌∙◌, inl, inr, arith}
use Rattle.std.specs.declared.alloc.AllocError.{AllocError}
use Rattle.std.specs.declared.alloc.Global.{Global}
use Rattle.std.proofs.lemmas.List.{append_assoc, take-append-le, take_all}
use Rattle.std.proofs.lemmas.Result.{IfOk-weaker}
use Rattle.std.proofs.lemmas.Bool.{lt-ltb, le-ltb}
use Rattle.catalogue.specs.Catalogue.{Catalogue}
use Rattle.rows.specs.declared.row.Place.{Place}
use Rattle.rows.specs.declared.row.ModuleRow.{ModuleRow}
use Rattle.rows.specs.Opening.{opened}
use Rattle.book_text.specs.Faults.{number_of, Where, where_of}
use Rattle.book_text.specs.Faults.Where.{offset_at, place_at}
use Rattle.book_text.specs.Texts.{place_text, book_fault_text}
use Rattle.book_text.specs.Outcomes.{Outcome, outcome}
use Rattle.book_text.specs.Outcomes.Outcome.{accepted}
use Rattle.table_format.specs.declared.fault.TableFault.{TableFault}
use Rattle.table_format.specs.declared.fault.TableFault.TheVariants.{NoMemory}
use Rattle.table_format.specs.Reading.{meaning}
use Rattle.table_format.specs.Taking.{fault, number, place}
use Rattle.table_format.specs.Texts.{table_fault_text}
use Rattle.table_format.proofs.Texts.{fault_told}
use Rattle.report.proofs.Lists.{told_line}
use Rattle.report.specs.Text.{longest_file, long_line, refused_line}
use Rattle.output.specs.declared.Taken.{Taken}
use Rattle.output.specs.declared.FileFault.{FileFault}
use Rattle.output.specs.declared.FileFault.TheVariants.{BookLong, Book, TableLong, Table}
use Rattle.output.specs.Taking.{Took}
use Rattle.output.specs.Output.{where_text, file_fault_text, book_name, table_name, place_rows, module_rows, file_fault_line, with_table, with_book, shown}

module _ (show : Catalogue → Catalogue → List ℕ) (book table : List ℕ) where
  pub long_book : longest_file < length book → long_line book_name ≡ shown show book table
  unfolding shown
  long_book l = sym (ap (λ (t : Bool). elim t [ true ↦ long_line book_name | false ↦ with_book show table (outcome place_rows module_rows book) ]) (lt-ltb longest_file (length book) l))

  pub by_book : (o : Outcome) (p m : ℕ) → length book ≤ longest_file → p ≡ place_rows → m ≡ module_rows → outcome p m book ≡ o → with_book show table o ≡ shown show book table
  unfolding shown
  by_book o p m l ep em e =
      ap (with_book show table) (sym e ∙ ap (λ k. outcome k m book) ep ∙ ap (λ k. outcome place_rows k book) em)
      ∙ sym (ap (λ (t : Bool). elim t [ true ↦ long_line book_name | false ↦ with_book show table (outcome place_rows module_rows book) ]) (le-ltb longest_file (length book) l))

  pub long_table : (ps : List Place) (ms : List ModuleRow) (p m : ℕ) → length book ≤ longest_file → p ≡ place_rows → m ≡ module_rows → outcome p m book ≡ accepted ps ms → longest_file < length table → long_line table_name ≡ shown show book table
  long_table ps ms p m l ep em e k =
      sym (ap (λ (t : Bool). elim t [ true ↦ long_line table_name | false ↦ with_table show (opened ps ms) table (fault table) ]) (lt-ltb longest_file (length table) k))
      ∙ by_book (accepted ps ms) p m l ep em e

  pub by_table : (ps : List Place) (ms : List ModuleRow) (p m : ℕ) (o : Option TableFault) → length book ≤ longest_file → p ≡ place_rows → m ≡ module_rows → outcome p m book ≡ accepted ps ms → length table ≤ longest_file → fault table ≡ o → with_table show (opened ps ms) table o ≡ shown show book table
  by_table ps ms p m o l ep em e k f =
      ap (with_table show (opened ps ms) table) (sym f)
      ∙ sym (ap (λ (t : Bool). elim t [ true ↦ long_line table_name | false ↦ with_table show (opened ps ms) table (fault table) ]) (le-ltb longest_file (length table) k))
      ∙ by_book (accepted ps ms) p m l ep em e

module _ (book table : List ℕ) (ps : List Place) (ms : List ModuleRow) (p m : ℕ) (short : length book ≤ longest_file) (wide : p ≡ place_rows) (many : m ≡ module_rows) (reads : outcome p m book ≡ accepted ps ms) (brief : length table ≤ longest_file) where
  pub table_refused : (e : TableFault) → (fault table ≡ Some e) ⊎ ((e ≡ NoMemory) × (fault table ≡ None)) → (Table e ≡ Table NoMemory) ⊎ ((show : Catalogue → Catalogue → List ℕ) → file_fault_line (Table e) ≡ shown show book table)
  table_refused e (inl h) = inr (λ show. by_table show book table ps ms p m (Some e) short wide many reads brief h)
  table_refused e (inr h) = inl (ap Table h.0)

  pub both_taken : (written : List ℕ) → fault table ≡ None → written ≡ table → (show : Catalogue → Catalogue → List ℕ) → show (opened ps ms) (meaning written) ≡ shown show book table
  both_taken written f e show = ap (λ (b : List ℕ). show (opened ps ms) (meaning b)) e ∙ by_table show book table ps ms p m None short wide many reads brief f

-- a fault that is not want of memory, in print, and its line
where_told : (w : Where) → place_text w ++ ascii "\n" ≡ where_text w
where_told (offset_at k) = refl
where_told (place_at m i) = append_assoc (decimal m) (ascii " " ++ decimal i) (ascii "\n") ∙ ap (λ (x : List ℕ). decimal m ++ x) (append_assoc (ascii " ") (decimal i) (ascii "\n"))

pub fault_line_told : (e : FileFault) → (e ≡ Table NoMemory → ⊥) → file_fault_text e ++ ascii "\n" ≡ file_fault_line e
fault_line_told BookLong n = refl
fault_line_told (Book e) n =
    append_assoc book_name (ascii " " ++ book_fault_text e) (ascii "\n")
    ∙ ap (λ (x : List ℕ). book_name ++ (ascii " " ++ x)) (append_assoc (decimal (number_of e)) (ascii " " ++ place_text (where_of e)) (ascii "\n") ∙ ap (λ (x : List ℕ). decimal (number_of e) ++ (ascii " " ++ x)) (where_told (where_of e)))
fault_line_told TableLong n = refl
fault_line_told (Table e) n =
    append_assoc table_name (ascii " " ++ table_fault_text e) (ascii "\n")
    ∙ ap (refused_line table_name) (fault_told e (λ p. n (ap Table p))) ∙ told_line table_name (unwrap_or (number e) 0) (place e)

pub refused_printed : (r : Result (String Global) AllocError) (e : FileFault) → (e ≡ Table NoMemory → ⊥) → IfOk r (λ s. string_bytes s ≡ file_fault_text e ++ ascii "\n") → IfOk r (λ s. (string_bytes s ≡ file_fault_line e) × (e ≡ Table NoMemory → ⊥))
refused_printed r e n h = IfOk-weaker r (λ s. string_bytes s ≡ file_fault_text e ++ ascii "\n") (λ s. (string_bytes s ≡ file_fault_line e) × (e ≡ Table NoMemory → ⊥)) (λ s q. (q ∙ fault_line_told e n, n)) h

-- what was written into a whole list
pub rewritten : {A : Type 0} (n : ℕ) (xs ys : List A) → n ≡ length xs → take n (xs ++ drop (length xs) ys) ≡ xs
rewritten n xs ys h = take-append-le n xs (drop (length xs) ys) (omega (arith, h)) ∙ take_all n xs (omega (arith, h))

pub took_as : (book table : List ℕ) (ps' ps : List Place) (ms' ms : List ModuleRow) (t : Taken) → ps' ≡ ps → ms' ≡ ms → Took book table ps ms t → Took book table ps' ms' t
took_as book table ps' ps ms' ms t p m h = subst (λ (x : List Place). Took book table x ms' t) (sym p) (subst (λ (x : List ModuleRow). Took book table ps x t) (sym m) h)
