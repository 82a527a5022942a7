-- Trying a module: one criterion after the other, each over all places. Assumes nothing.
use Rattle.std.specs.Prelude.{◌≡◌, ℕ, ◌<◌, true, List, length, Some, None, Ok, Err, Result}
use Rattle.rows.specs.declared.row.Place.{Place}
use Rattle.rows.specs.declared.row.ModuleRow.{ModuleRow}
use Rattle.rows.specs.declared.fault.RowsFault.{RowsFault}
use Rattle.rows.specs.Places.{row}
use Rattle.rows.specs.Opening.{book_places, places_of, inside, places_fault, module_fault}
use Rattle.trial.specs.declared.summary.Summary.{Summary}
use Rattle.trial.specs.Summaries.{Summarizes}

-- every place leads to places of the module
abbrev pub AllInside : List Place → Type 0
AllInside ps = (i : ℕ) → i < length ps → inside (length ps) (row ps i) ≡ true

-- What trying the places of a module, and the whole module, gives: their summaries or a fault.
abbrev pub TriedPlaces : List Place → ℕ → Result (List Summary) RowsFault → Type 0
TriedPlaces ps m (Ok ss) = (places_fault ps m ≡ None) × Summarizes ps (length ps) ss × (length ss ≡ book_places)
TriedPlaces ps m (Err e) = places_fault ps m ≡ Some e

abbrev pub Tried : List Place → ℕ → ModuleRow → Result (List Summary) RowsFault → Type 0
Tried rows m r (Ok ss) = (module_fault rows m r ≡ None) × Summarizes (places_of rows r) (length (places_of rows r)) ss × (length ss ≡ book_places)
Tried rows m r (Err e) = module_fault rows m r ≡ Some e
