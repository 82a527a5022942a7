-- What reading a text into lent rows leads to. Assumes nothing.
use Rattle.std.specs.Prelude.{◌≡◌, ℕ, ◌-◌, ◌≤◌, List, length, take, drop, replicate, Some, None, Ok, Err, Result}
use Rattle.rows.specs.declared.row.Place.{Place}
use Rattle.rows.specs.declared.row.Place.TheVariants.{Nil}
use Rattle.rows.specs.declared.row.ModuleRow.{ModuleRow}
use Rattle.rows.specs.Opening.{fault}
use Rattle.rows.specs.Faults.{refusal_number, part_of, place_of}
use Rattle.book_grammar.specs.Reading.{Read, reading}
use Rattle.book_grammar.specs.Reading.Read.{refused, taken}
use Rattle.book_text.specs.declared.fault.BookFault.{BookFault}
use Rattle.book_text.specs.declared.steps.reading.Used.{Used}
use Rattle.book_text.specs.Faults.{number_of, Where, where_of}
use Rattle.book_text.specs.Faults.Where.{offset_at, place_at}

-- a zeroed module row
abbrev pub zero_row : ModuleRow
zero_row = record { first = 0; places = 0; start = 0 }

-- a refusal with its number and where it points, or the rows of a book
pub data Outcome : Type 0 where
  turned_away : ℕ → Where → Outcome
  accepted : List Place → List ModuleRow → Outcome

-- rows that the words make are tried as opening tries them
abbrev pub judged : List Place → List ModuleRow → Outcome
judged places modules = elim (fault places modules) [ None ↦ accepted places modules | Some e ↦ turned_away (refusal_number e) (place_at (part_of e) (place_of e)) ]

abbrev pub judged_read : Read → Outcome
judged_read (refused n k) = turned_away n (offset_at k)
judged_read (taken places modules) = judged places modules

-- reading a text into p place rows and m module rows: first its words, then the rows that they make
unfoldable pub outcome : ℕ → ℕ → List ℕ → Outcome
outcome p m text = judged_read (reading p m text)

-- the words alone
abbrev pub ReadsWords : List ℕ → List Place → List ModuleRow → List Place → List ModuleRow → Result Used BookFault → Type 0
ReadsWords text places modules places' modules' (Ok u) =
    (reading (length places) (length modules) text ≡ taken (take u.places places') (take u.modules modules')) × (u.places ≤ length places) × (u.modules ≤ length modules)
ReadsWords text places modules places' modules' (Err f) =
    (judged_read (reading (length places) (length modules) text) ≡ turned_away (number_of f) (where_of f))

-- the words, and then the rows that they make
abbrev pub ReadsRows : List ℕ → List Place → List ModuleRow → List Place → List ModuleRow → Result Used BookFault → Type 0
ReadsRows text places modules places' modules' (Ok u) =
    (outcome (length places) (length modules) text ≡ accepted (take u.places places') (take u.modules modules')) × (u.places ≤ length places) × (u.modules ≤ length modules)
ReadsRows text places modules places' modules' (Err f) =
    (outcome (length places) (length modules) text ≡ turned_away (number_of f) (where_of f))

-- What reading answers and leaves in the lent rows: the outcome, the rows that were used in front, and zeroed rows behind them.
pub record Accepted (text : List ℕ) (places : List Place) (modules : List ModuleRow) (places' : List Place) (modules' : List ModuleRow) (u : Used) : Type 0 where
  pub rows : outcome (length places) (length modules) text ≡ accepted (take u.places places') (take u.modules modules')
  pub places_used : u.places ≤ length places
  pub modules_used : u.modules ≤ length modules
  pub places_zeroed : drop u.places places' ≡ replicate (length places - u.places) Nil
  pub modules_zeroed : drop u.modules modules' ≡ replicate (length modules - u.modules) zero_row

-- Or the refusal, and nothing but zeroed rows.
pub record TurnedAway (text : List ℕ) (places : List Place) (modules : List ModuleRow) (places' : List Place) (modules' : List ModuleRow) (f : BookFault) : Type 0 where
  pub fault : outcome (length places) (length modules) text ≡ turned_away (number_of f) (where_of f)
  pub places_zeroed : places' ≡ replicate (length places) Nil
  pub modules_zeroed : modules' ≡ replicate (length modules) zero_row

abbrev pub Reads : List ℕ → List Place → List ModuleRow → List Place → List ModuleRow → Result Used BookFault → Type 0
Reads text places modules places' modules' (Ok u) = Accepted text places modules places' modules' u
Reads text places modules places' modules' (Err f) = TurnedAway text places modules places' modules' f
