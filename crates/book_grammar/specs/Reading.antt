-- Reading, word by word, as an automaton with a stack: what may stand where, what a word does, and what is refused. Assumes nothing.
use Rattle.std.specs.Prelude.{ℕ, suc, ◌+◌, Bool, true, false, not, ◌&&◌, ◌||◌, List, [], ◌∷◌, ◌++◌, map, length, ℤ, ◌==◌, nat_lt}
use Rattle.action.specs.Lists.{any}
use Rattle.book_grammar.specs.Numbers.{most_modules, most_equations, most_places, most_parentheses, most_letters}
use Rattle.rows.specs.declared.row.Place.{Place}
use Rattle.rows.specs.declared.row.Place.TheVariants.{Nil, Act, Wait, Sum}
use Rattle.rows.specs.declared.row.ModuleRow.{ModuleRow}
use Rattle.book_words.specs.Words.{same, Kind, Word, words}
use Rattle.book_words.specs.Words.Kind.{alien, other, bad, begins, nil, wait, dot, plus, equals, ends, opens, closes, enter, leave, name, act}
use Rattle.book_grammar.specs.Rows.{Row, newest, Side, side, settled, module_row}
use Rattle.book_grammar.specs.Rows.Row.{plain, named}

-- The states of the automaton, each named by what comes next: `outside` a module or the end, `title` a module's name, `brace` its `{`,
-- `left` a left side or the `}`, `equal` the `=`, `term` a term, `point` the `.` of a prefix; `after` is behind a term.
pub data State : Type 0 where
  outside title brace left equal term point after : State

-- what is open in a right side, the entries of the stack: a wait or an action whose term is to come, a sum that has its left place and
-- whose right term is to come, a parenthesis
pub data Open : Type 0 where
  waiting : Open
  acting : ℤ → Open
  adding : ℕ → Open
  paren : Open

-- a reading in progress
pub record Reading : Type 0 where
  pub state : State
  pub opened : List Open  -- the stack, the innermost first
  pub rows : List Row  -- the places of the module at hand
  pub sides : List Side  -- its left sides
  pub titles : List (List ℕ)  -- the modules' names
  pub places : List Place  -- the places of the modules before it
  pub modules : List ModuleRow  -- and their rows

-- a reading that has gone on to another state, stack and rows
abbrev pub on : Reading → State → List Open → List Row → Reading
on s state opened rows = record { state = state; opened = opened; rows = rows; sides = s.sides; titles = s.titles; places = s.places; modules = s.modules }

-- a reading that begins
abbrev pub blank_reading : Reading
blank_reading = record { state = outside; opened = []; rows = []; sides = []; titles = []; places = []; modules = [] }

-- a term is complete: with it is what waits for it, up to the parenthesis around it. The stack then:
abbrev pub around : List Open → List Open
around [] = []
around (waiting ∷ os) = around os
around (acting a ∷ os) = around os
around (adding k ∷ os) = around os
around (paren ∷ os) = paren ∷ os

-- and the rows
abbrev pub finished : List Open → List Row → List Row
finished [] rows = rows
finished (waiting ∷ os) rows = finished os (rows ++ plain (Wait (newest rows)) ∷ [])
finished (acting a ∷ os) rows = finished os (rows ++ plain (Act a (newest rows)) ∷ [])
finished (adding k ∷ os) rows = finished os (rows ++ plain (Sum k (newest rows)) ∷ [])
finished (paren ∷ os) rows = rows

-- what a complete term leads to
abbrev pub complete : Reading → List Open → List Row → Reading
complete s opened rows = on s after (around opened) (finished opened rows)

-- how many parentheses are open
abbrev pub parens : List Open → ℕ
parens [] = 0
parens (waiting ∷ os) = parens os
parens (acting a ∷ os) = parens os
parens (adding k ∷ os) = parens os
parens (paren ∷ os) = suc (parens os)

-- the states told apart
abbrev pub state_number : State → ℕ
state_number outside = 0
state_number title = 1
state_number brace = 2
state_number left = 3
state_number equal = 4
state_number term = 5
state_number point = 6
state_number after = 7

-- a reading is in a state
abbrev pub at : Reading → State → Bool
at s here = state_number s.state == state_number here

-- there is some element
abbrev pub some : {A : Type 0} → List A → Bool
some [] = false
some (x ∷ xs) = true

-- the innermost that is open is a parenthesis
abbrev pub inside : List Open → Bool
inside [] = false
inside (waiting ∷ os) = false
inside (acting a ∷ os) = false
inside (adding k ∷ os) = false
inside (paren ∷ os) = true

-- all but the first
abbrev pub behind : {A : Type 0} → List A → List A
behind [] = []
behind (x ∷ xs) = xs

-- the words that may stand in a state
abbrev pub allowed : Reading → Kind → Bool
allowed s begins = at s outside
allowed s (name x) = at s title || (at s left || at s term)
allowed s enter = at s brace
allowed s leave = at s left && some s.sides
allowed s equals = at s equal
allowed s nil = at s term
allowed s wait = at s term
allowed s (act a) = at s term
allowed s bad = at s term
allowed s opens = at s term
allowed s dot = at s point
allowed s plus = at s after
allowed s closes = at s after && inside s.opened
allowed s ends = at s after && not (some s.opened)
allowed s other = false
allowed s alien = false

-- what a name does
abbrev pub on_name : State → List ℕ → Reading → Reading
on_name title x s = record { state = brace; opened = s.opened; rows = s.rows; sides = s.sides; titles = s.titles ++ x ∷ []; places = s.places; modules = s.modules }
on_name left x s = record { state = equal; opened = s.opened; rows = s.rows; sides = s.sides ++ side x 0 ∷ []; titles = s.titles; places = s.places; modules = s.modules }
on_name term x s = complete s s.opened (s.rows ++ named x ∷ [])
on_name outside x s = s
on_name brace x s = s
on_name equal x s = s
on_name point x s = s
on_name after x s = s

-- the newest left side has its right side
abbrev pub sided : List Side → ℕ → List Side
sided [] k = []
sided (x ∷ []) k = side x.left k ∷ []
sided (x ∷ y ∷ xs) k = x ∷ sided (y ∷ xs) k

-- what each word does where it may stand
abbrev pub moved : Reading → Kind → Reading
moved s begins = on s title s.opened s.rows
moved s (name x) = on_name s.state x s
moved s enter = on s left s.opened s.rows
moved s leave = record {
  state = outside;
  opened = [];
  rows = [];
  sides = [];
  titles = s.titles;
  places = s.places ++ map (settled s.sides) s.rows;
  modules = s.modules ++ module_row (length s.places) s.rows s.sides ∷ [];
}
moved s equals = on s term s.opened s.rows
moved s nil = complete s s.opened (s.rows ++ plain Nil ∷ [])
moved s wait = on s point (waiting ∷ s.opened) s.rows
moved s (act a) = on s point (acting a ∷ s.opened) s.rows
moved s opens = on s term (paren ∷ s.opened) s.rows
moved s dot = on s term s.opened s.rows
moved s plus = on s term (adding (newest s.rows) ∷ s.opened) s.rows
moved s closes = complete s (behind s.opened) s.rows
moved s ends = record { state = left; opened = []; rows = s.rows; sides = sided s.sides (newest s.rows); titles = s.titles; places = s.places; modules = s.modules }
moved s bad = s
moved s other = s
moved s alien = s

-- the kinds of words told apart
abbrev pub kind_number : Kind → ℕ
kind_number alien = 0
kind_number other = 1
kind_number bad = 2
kind_number begins = 3
kind_number nil = 4
kind_number wait = 5
kind_number dot = 6
kind_number plus = 7
kind_number equals = 8
kind_number ends = 9
kind_number opens = 10
kind_number closes = 11
kind_number enter = 12
kind_number leave = 13
kind_number (name x) = 14
kind_number (act a) = 15

-- a word is of a kind
abbrev pub is : Kind → Kind → Bool
is w k = kind_number w == kind_number k

-- a name's bytes
abbrev pub spelled : Kind → List ℕ
spelled (name x) = x
spelled alien = []
spelled other = []
spelled bad = []
spelled begins = []
spelled nil = []
spelled wait = []
spelled dot = []
spelled plus = []
spelled equals = []
spelled ends = []
spelled opens = []
spelled closes = []
spelled enter = []
spelled leave = []
spelled (act a) = []

-- 4: a name that is too long
abbrev pub long : Kind → Bool
long w = nat_lt most_letters (length (spelled w))

-- the names that may not be given again: the modules' where a module's is due, the left sides where one may stand
abbrev pub lefts : List Side → List (List ℕ)
lefts sides = map (λ (s : Side). s.left) sides

abbrev pub taken_names : State → Reading → List (List ℕ)
taken_names title s = s.titles
taken_names left s = lefts s.sides
taken_names outside s = []
taken_names brace s = []
taken_names equal s = []
taken_names term s = []
taken_names point s = []
taken_names after s = []

-- 5: a module's name or a left side that was given before
abbrev pub given : Reading → Kind → Bool
given s w = is w (name []) && any (same (spelled w)) (taken_names s.state s)

-- a row whose name has no equation
abbrev pub lost : List Side → Row → Bool
lost sides (plain p) = false
lost sides (named x) = not (any (same x) (lefts sides))

-- 6: at the closing brace, some name has no equation
abbrev pub lacking : Reading → Kind → Bool
lacking s w = is w leave && any (lost s.sides) s.rows

-- the modules begun, the one whose name is awaited too
abbrev pub begun : Reading → ℕ
begun s = length s.titles + elim (at s title) [ true ↦ 1 | false ↦ 0 ]

-- 7: over a limit, with p place rows and m module rows lent
abbrev pub over : ℕ → ℕ → Reading → Bool
over p m s =
    nat_lt most_modules (begun s) || (nat_lt m (begun s) || (nat_lt most_equations (length s.sides) || (nat_lt most_places (length s.rows)
    || (nat_lt p (length s.places + length s.rows) || nat_lt most_parentheses (parens s.opened)))))

-- what a word leads to: a refusal with its number, or a further reading
pub data Step : Type 0 where
  stops : ℕ → Step
  goes : Reading → Step

-- the smallest number that holds, or else what the word leads to
abbrev pub smallest : (alien allowed bad long given lacking over : Bool) → Reading → Step
smallest true b c d e f g t = stops 1
smallest false false c d e f g t = stops 2
smallest false true true d e f g t = stops 3
smallest false true false true e f g t = stops 4
smallest false true false false true f g t = stops 5
smallest false true false false false true g t = stops 6
smallest false true false false false false true t = stops 7
smallest false true false false false false false t = goes t

-- a word is tried
abbrev pub tried : ℕ → ℕ → Reading → Kind → Step
tried p m s w = smallest (is w alien) (allowed s w) (is w bad) (long w) (given s w) (lacking s w) (over p m (moved s w)) (moved s w)

-- what reading a text leads to: a refusal with its number and offset, or place rows and module rows
pub data Read : Type 0 where
  refused : (number offset : ℕ) → Read
  taken : List Place → List ModuleRow → Read

-- the words are tried from the front; `end` is the text's length
abbrev pub run : ℕ → ℕ → ℕ → Reading → List Word → Read
run p m end s [] = elim (at s outside) [ true ↦ taken s.places s.modules | false ↦ refused 2 end ]
run p m end s (w ∷ ws) = elim (tried p m s w.kind) [ stops n ↦ refused n w.at | goes t ↦ run p m end t ws ]

-- reading a text into p place rows and m module rows
unfoldable pub reading : ℕ → ℕ → List ℕ → Read
reading p m text = run p m (length text) blank_reading (words text)
