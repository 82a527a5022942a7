-- Places are numbered in the order in which their text is complete; the rows of a tree, of a module and of a book. Assumes nothing.
use Rattle.std.specs.Prelude.{ℕ, ◌-◌, cond, List, [], ◌∷◌, ◌++◌, map, length}
use Rattle.rows.specs.declared.row.Place.{Place}
use Rattle.rows.specs.declared.row.Place.TheVariants.{Nil, Act, Wait, Sum, Name}
use Rattle.rows.specs.declared.row.ModuleRow.{ModuleRow}
use Rattle.book_words.specs.Words.{same}
use Rattle.book_grammar.specs.Grammar.{Tree, Equation, Module}
use Rattle.book_grammar.specs.Grammar.Tree.{nought, called, waits, acts, both, group}

-- a row while its module is being read: a name is not yet led to its equation
pub data Row : Type 0 where
  plain : Place → Row
  named : List ℕ → Row

-- the number of the newest place
abbrev pub newest : List Row → ℕ
newest rows = length rows - 1

-- a tree's places behind those that are there: followers before what leads to them, the left term before the right
abbrev pub laid : Tree → List Row → List Row
laid nought rows = rows ++ plain Nil ∷ []
laid (called x) rows = rows ++ named x ∷ []
laid (waits t) rows = laid t rows ++ plain (Wait (newest (laid t rows))) ∷ []
laid (acts a t) rows = laid t rows ++ plain (Act a (newest (laid t rows))) ∷ []
laid (both l r) rows = laid r (laid l rows) ++ plain (Sum (newest (laid l rows)) (newest (laid r (laid l rows)))) ∷ []
laid (group t) rows = laid t rows

-- a left side with the place of its right side
pub record Side : Type 0 where
  pub left : List ℕ
  pub place : ℕ

abbrev pub side : List ℕ → ℕ → Side
side x k = record { left = x; place = k }

-- the rows of equations and their left sides with the places of their right sides, behind those that are there
abbrev pub rows_after : List Equation → List Row → List Row
rows_after [] rows = rows
rows_after (e ∷ es) rows = rows_after es (laid e.right rows)

abbrev pub sides_after : List Equation → List Row → List Side → List Side
sides_after [] rows sides = sides
sides_after (e ∷ es) rows sides = sides_after es (laid e.right rows) (sides ++ side e.left (newest (laid e.right rows)) ∷ [])

-- the right side's place of a name
abbrev pub place_of : List Side → List ℕ → ℕ
place_of [] x = 0
place_of (s ∷ ss) x = cond (same x s.left) s.place (place_of ss x)

-- a row once all sides are known: a name leads to the right side of its equation
abbrev pub settled : List Side → Row → Place
settled sides (plain p) = p
settled sides (named x) = Name (place_of sides x)

-- a module starts in the right side of its first equation
abbrev pub start_of : List Side → ℕ
start_of [] = 0
start_of (s ∷ ss) = s.place

abbrev pub module_row : ℕ → List Row → List Side → ModuleRow
module_row first rows sides = record { first = first; places = length rows; start = start_of sides }

-- the place rows and the module rows of a book, behind those that are there
abbrev pub places_after : List Module → List Place → List Place
places_after [] places = places
places_after (m ∷ ms) places = places_after ms (places ++ map (settled (sides_after m.equations [] [])) (rows_after m.equations []))

abbrev pub modules_after : List Module → List Place → List ModuleRow → List ModuleRow
modules_after [] places modules = modules
modules_after (m ∷ ms) places modules =
    modules_after ms (places ++ map (settled (sides_after m.equations [] [])) (rows_after m.equations []))
    (modules ++ module_row (length places) (rows_after m.equations []) (sides_after m.equations [] []) ∷ [])
