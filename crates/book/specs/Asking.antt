-- What a question looks up: the equations of a module, and its states. Assumes nothing.
use Rattle.std.specs.Prelude.{◌≡◌, ℕ, ◌<◌, ◌≤◌, List, length, Some, None, Option, slice_index_or}
use Rattle.catalogue.specs.Catalogue.{State, nowhere}
use Rattle.rows.specs.declared.row.Place.{Place}
use Rattle.rows.specs.declared.row.ModuleRow.{ModuleRow}
use Rattle.rows.specs.Places.{states_of}
use Rattle.rows.specs.Opening.{fault, opened, row_of, places_in}
use Rattle.book.specs.declared.equations.Equations.{Equations}

-- the equations of module m, or nothing where the book has no such module
abbrev pub Found : List Place → List ModuleRow → ℕ → Option Equations → Type 0
Found rows ms m (Some e) = (fault rows ms ≡ None) × (m < length ms) × (e.places.now ≡ places_in rows ms m) × (e.start ≡ (row_of ms m).start)
Found rows ms m None = length (opened rows ms) ≤ m

-- the state with code c of a module with these places
abbrev pub state_with : List Place → ℕ → State
state_with ps c = slice_index_or (states_of ps) c nowhere
