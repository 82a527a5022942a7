-- What one word does to a parser and the lent rows. Assumes nothing.
use Rattle.std.specs.Prelude.{◌≡◌, ℕ, zero, suc, ◌+◌, ◌<◌, ◌≤◌, List, length, take, drop, Ok, Err, Result, slice_index}
use Rattle.arrayvec.specs.ArrayVec.{array_vec_len}
use Rattle.rows.specs.declared.row.Place.{Place}
use Rattle.rows.specs.declared.row.ModuleRow.{ModuleRow}
use Rattle.book_words.specs.Words.{Kind, Word}
use Rattle.book_words.specs.Words.Kind.{name}
use Rattle.book_grammar.specs.Numbers.{most_modules, most_equations, most_places, most_parentheses}
use Rattle.book_grammar.specs.Reading.{Reading, Step, Read, tried, run, blank_reading}
use Rattle.book_grammar.specs.Reading.Step.{stops, goes}
use Rattle.book_grammar.specs.Reading.Read.{refused}
use Rattle.book_text.specs.declared.fault.BookFault.{BookFault}
use Rattle.book_text.specs.declared.parser.Parser.{Parser}
use Rattle.book_text.specs.declared.parser.Stack.{Stack}
use Rattle.book_text.specs.declared.parser.State.{State}
use Rattle.book_text.specs.declared.parser.State.TheVariants.{Outside, Title, Brace, Left, Equal, Term, Point, After}
use Rattle.book_text.specs.Faults.{number_of, where_of}
use Rattle.book_text.specs.Faults.Where.{offset_at}
use Rattle.book_text.specs.Parsers.{view}
use Rattle.book_text.specs.Stacks.{floor}

-- the floors of k parentheses rise, and none is above the number n of ops
abbrev pub Tidy : List ℕ → ℕ → ℕ → Type 0
Tidy floors zero n = Unit {0}
Tidy floors (suc k) n = (slice_index floors k ≤ n) × Tidy floors k (slice_index floors k)

-- what is open in each state, and that a right side belongs to an equation
abbrev pub Poised : State → Stack → ℕ → Type 0
Poised Outside s equations = (s.pending ≡ 0) × (array_vec_len s.floors ≡ 0)
Poised Title s equations = (s.pending ≡ 0) × (array_vec_len s.floors ≡ 0)
Poised Brace s equations = (s.pending ≡ 0) × (array_vec_len s.floors ≡ 0)
Poised Left s equations = (s.pending ≡ 0) × (array_vec_len s.floors ≡ 0)
Poised Equal s equations = 0 < equations
Poised Term s equations = 0 < equations
Poised Point s equations = 0 < equations
Poised After s equations = (0 < equations) × (s.pending ≡ floor s)

-- the modules that are begun and have no name yet; those that have a name and no row yet
abbrev pub unnamed : State → ℕ
unnamed Outside = 0
unnamed Title = 1
unnamed Brace = 0
unnamed Left = 0
unnamed Equal = 0
unnamed Term = 0
unnamed Point = 0
unnamed After = 0

abbrev pub unfinished : State → ℕ
unfinished Outside = 0
unfinished Title = 0
unfinished Brace = 1
unfinished Left = 1
unfinished Equal = 1
unfinished Term = 1
unfinished Point = 1
unfinished After = 1

-- what holds of a parser between words; at most n ops are open
pub record Sound (n : ℕ) (d : Parser) : Type 0 where
  pub ops_kept : length d.stack.ops ≡ most_places
  pub names_kept : length d.names ≡ most_places
  pub short : d.stack.pending ≤ n
  pub nested : array_vec_len d.stack.floors ≤ most_parentheses
  pub tidy : Tidy d.stack.floors.items (length d.stack.floors.items) d.stack.pending
  pub poised : Poised d.state d.stack (array_vec_len d.lefts)
  pub few_rows : d.rows ≤ most_places
  pub few_equations : array_vec_len d.lefts ≤ most_equations
  pub few_modules : array_vec_len d.titles + unnamed d.state ≤ most_modules
  pub told : d.done + unfinished d.state ≡ array_vec_len d.titles

-- the same with p place rows and m module rows lent
pub record Steady (n : ℕ) (d : Parser) (p m : ℕ) : Type 0 where
  pub sound : Sound n d
  pub room : d.first + d.rows ≤ p
  pub lent : array_vec_len d.titles + unnamed d.state ≤ m

-- what the word leads to, and then the words behind it
abbrev pub going_on : ℕ → ℕ → ℕ → ℕ → List Word → Step → Read
going_on p m end at ws x = elim x [ stops n ↦ refused n at | goes t ↦ run p m end t ws ]

-- A word of kind k at an offset leads from one reading to another: whatever words follow, both lead to the same. Or it is refused.
abbrev pub Leads : (p m end : ℕ) → Reading → Kind → (at : ℕ) → Reading → Parser → Result (Unit {0}) BookFault → Type 0
Leads p m end v k at v' d' (Ok done) = ((ws : List Word) → going_on p m end at ws (tried p m v k) ≡ run p m end v' ws) × Steady (at + 1) d' p m
Leads p m end v k at v' d' (Err f) = (tried p m v k ≡ stops (number_of f)) × (where_of f ≡ offset_at at)

-- a parser and rows, and what they become
abbrev pub Does : List ℕ → Parser → List Place → List ModuleRow → Kind → ℕ → Parser → List Place → List ModuleRow → Result (Unit {0}) BookFault → Type 0
Does text d places modules k at d' places' modules' r = Steady at d (length places) (length modules)
    → Leads (length places) (length modules) (length text) (view text d places modules) k at (view text d' places' modules') d' r

-- the same for a word that changes no row, in any text, and with any rows lent
abbrev pub DoesOn : List ℕ → Parser → Kind → ℕ → Parser → Result (Unit {0}) BookFault → Type 0
DoesOn text d k at d' r = (places : List Place) (modules : List ModuleRow) → Does text d places modules k at d' places modules r

abbrev pub DoesAny : Parser → Kind → ℕ → Parser → Result (Unit {0}) BookFault → Type 0
DoesAny d k at d' r = (text : List ℕ) → DoesOn text d k at d' r

-- for a word that begins a module, with so many module rows lent
abbrev pub DoesModule : ℕ → Parser → Kind → ℕ → Parser → Result (Unit {0}) BookFault → Type 0
DoesModule lent d k at d' r = (text : List ℕ) (places : List Place) (modules : List ModuleRow) → length modules ≡ lent → Does text d places modules k at d' places modules r

-- for a word that changes place rows
abbrev pub DoesRows : List ℕ → Parser → List Place → Kind → ℕ → Parser → List Place → Result (Unit {0}) BookFault → Type 0
DoesRows text d places k at d' places' r = (modules : List ModuleRow) → Does text d places modules k at d' places' modules r

abbrev pub DoesRowsAny : Parser → List Place → Kind → ℕ → Parser → List Place → Result (Unit {0}) BookFault → Type 0
DoesRowsAny d places k at d' places' r = (text : List ℕ) → DoesRows text d places k at d' places' r

-- for a name x that stands at the offset
abbrev pub DoesName : List ℕ → Parser → List Place → List ℕ → ℕ → Parser → List Place → Result (Unit {0}) BookFault → Type 0
DoesName text d places x at d' places' r = x ≡ take (length x) (drop at text) → DoesRows text d places (name x) at d' places' r

-- a parser that begins
pub record Blank (d : Parser) : Type 0 where
  pub steady : (p m : ℕ) → Steady 0 d p m
  pub shows : (text : List ℕ) (places : List Place) (modules : List ModuleRow) → view text d places modules ≡ blank_reading
