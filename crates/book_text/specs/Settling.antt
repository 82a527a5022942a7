-- Names are led to the right sides of their equations. Assumes nothing.
use Rattle.std.specs.Prelude.{◌≡◌, ℕ, ◌+◌, true, false, List, ◌++◌, map, take, Some, None, Option, Ok, Err, Result}
use Rattle.action.specs.Lists.{any}
use Rattle.rows.specs.declared.row.Place.{Place}
use Rattle.book_grammar.specs.Rows.{Row, Side, settled}
use Rattle.book_grammar.specs.Reading.{lost}
use Rattle.book_text.specs.declared.fault.BookFault.{BookFault}
use Rattle.book_text.specs.declared.fault.BookFault.TheVariants.{NoEquation}
use Rattle.book_text.specs.declared.parser.Parser.{Parser}
use Rattle.book_text.specs.Parsers.{side_in, rows_view, rows_in}

-- a row's place, if its name has an equation
abbrev pub settled_row : List Side → Row → Option Place
settled_row sides row = elim (lost sides row) [ true ↦ None | false ↦ Some (settled sides row) ]

-- the left sides and the rows of the module at hand
abbrev pub sides_of : List ℕ → Parser → List Side
sides_of text d = map (side_in text) d.lefts.items

abbrev pub rows_of : List ℕ → Parser → List Place → List Row
rows_of text d places = rows_view text d.names (rows_in d.first d.rows places)

-- All names are led to their right sides, and the rows before the module's stay.
abbrev pub Settled : List ℕ → Parser → List Place → List Place → Type 0
Settled text d places places' = (any (lost (sides_of text d)) (rows_of text d places) ≡ false)
    × (take (d.first + d.rows) places' ≡ take d.first places ++ map (settled (sides_of text d)) (rows_of text d places))

-- Or some name has no equation.
abbrev pub Settles : List ℕ → Parser → List Place → ℕ → List Place → Result (Unit {0}) BookFault → Type 0
Settles text d places at places' (Ok done) = Settled text d places places'
Settles text d places at places' (Err f) = (any (lost (sides_of text d)) (rows_of text d places) ≡ true) × (f ≡ NoEquation at)
