-- The limits of books, each in this one place. Assumes nothing.
use Rattle.std.specs.Prelude.{ℕ}

-- modules of a book
abbrev pub most_modules : ℕ
most_modules = 64

-- equations of a module
abbrev pub most_equations : ℕ
most_equations = 64

-- places of a module
abbrev pub most_places : ℕ
most_places = 256

-- parentheses that are open at one time
abbrev pub most_parentheses : ℕ
most_parentheses = 32

-- bytes of a name
abbrev pub most_letters : ℕ
most_letters = 16
