-- What an opened book keeps of its modules, and what its questions need of one. Assumes nothing.
use Rattle.std.specs.Prelude.{◌≡◌, ℕ, ◌<◌, List, [], length, get_or, None, Option}
use Rattle.rows.specs.declared.row.Place.{Place}
use Rattle.rows.specs.declared.row.ModuleRow.{ModuleRow}
use Rattle.rows.specs.declared.fault.RowsFault.{RowsFault}
use Rattle.rows.specs.Opening.{WellFormed, places_in}
use Rattle.trial.specs.declared.summary.Summary.{Summary}
use Rattle.trial.specs.Summaries.{Summarizes}

-- row m of a table keeps the summaries of module m's places
abbrev pub Keeps : List Place → List ModuleRow → List (List Summary) → ℕ → Type 0
Keeps rows ms table m = Summarizes (places_in rows ms m) (length (places_in rows ms m)) (get_or table m [])

-- .. for each module, where the verdict is that nothing is wrong
abbrev pub KeepsAll : List Place → List ModuleRow → List (List Summary) → Option RowsFault → Type 0
KeepsAll rows ms table verdict = verdict ≡ None → (m : ℕ) → m < length ms → Keeps rows ms table m

-- places that passed every trial, with their summaries
pub record Known (ps : List Place) (ss : List Summary) : Type 0 where
  pub well_formed : WellFormed ps
  pub summarized : Summarizes ps (length ps) ss
