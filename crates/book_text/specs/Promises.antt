-- What reading promises in the grammar's own words. Assumes nothing.
use Rattle.std.specs.Prelude.{◌≡◌, ℕ, ◌≤◌, ◌⊎◌, List, length, take, Some, None, Ok, Err, Result}
use Rattle.rows.specs.declared.row.Place.{Place}
use Rattle.rows.specs.declared.row.ModuleRow.{ModuleRow}
use Rattle.rows.specs.declared.fault.RowsFault.{RowsFault}
use Rattle.rows.specs.Opening.{fault}
use Rattle.rows.specs.Faults.{refusal_number, part_of, place_of}
use Rattle.book_words.specs.Words.{words}
use Rattle.book_grammar.specs.Limits.{IsBook}
use Rattle.book_grammar.specs.Laws.{FirstOut, Unfinished}
use Rattle.book_text.specs.declared.fault.BookFault.{BookFault}
use Rattle.book_text.specs.declared.steps.reading.Used.{Used}
use Rattle.book_text.specs.Faults.{number_of, where_of}
use Rattle.book_text.specs.Faults.Where.{offset_at, place_at}

-- A text that is taken has a derivation within the limits, its rows are those of the derived tree, and opening them succeeds.
pub record TakenText (p m : ℕ) (text : List ℕ) (places : List Place) (modules : List ModuleRow) : Type 0 where
  pub book : IsBook p m text places modules
  pub opens : fault places modules ≡ None

-- the rows cannot be opened, and the refusal says why: by 8, 9 or 10
pub record RowsRefuse (places : List Place) (modules : List ModuleRow) (f : BookFault) : Type 0 where
  pub reason : RowsFault
  pub found : fault places modules ≡ Some reason
  pub last : 8 ≤ refusal_number reason
  pub number : number_of f ≡ refusal_number reason
  pub place : where_of f ≡ place_at (part_of reason) (place_of reason)

-- a text with a derivation within the limits, whose rows cannot be opened
pub record Unopened (p m : ℕ) (text : List ℕ) (f : BookFault) : Type 0 where
  pub places : List Place
  pub modules : List ModuleRow
  pub book : IsBook p m text places modules
  pub refuses : RowsRefuse places modules f

-- A text that is refused by its words has no derivation within the limits, and one that has is refused only by its rows.
-- Refusal 2 is at the first word after which no continuation is a book, or at the end of a text that is none yet.
pub record RefusedText (p m : ℕ) (text : List ℕ) (f : BookFault) : Type 0 where
  pub by_words : (at : ℕ) → where_of f ≡ offset_at at → (places : List Place) (modules : List ModuleRow) → IsBook p m text places modules → ⊥
  pub by_rows : (part place : ℕ) → where_of f ≡ place_at part place → Unopened p m text f
  pub books : (places : List Place) (modules : List ModuleRow) → IsBook p m text places modules → RowsRefuse places modules f
  pub first_out : (at : ℕ) → number_of f ≡ 2 → where_of f ≡ offset_at at → FirstOut (words text) at ⊎ ((at ≡ length text) × Unfinished (words text))

abbrev pub Promises : List ℕ → List Place → List ModuleRow → List Place → List ModuleRow → Result Used BookFault → Type 0
Promises text places modules places' modules' (Ok u) = TakenText (length places) (length modules) text (take u.places places') (take u.modules modules')
Promises text places modules places' modules' (Err f) = RefusedText (length places) (length modules) text f
