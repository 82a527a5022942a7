-- What a parser becomes. Assumes nothing.
use Rattle.std.specs.Prelude.{◌≡◌, ℕ, ◌+◌, ◌-◌, ◌^◌, ◌<◌, ◌≤◌, Bool, true, false, ◌⊎◌, List, length, take, Ok, Err, Result, ◌==◌}
use Rattle.rows.specs.declared.row.Place.{Place}
use Rattle.book_grammar.specs.Numbers.{most_places}
use Rattle.book_grammar.specs.Reading.{state_number}
use Rattle.book_text.specs.declared.fault.BookFault.{BookFault}
use Rattle.book_text.specs.declared.fault.BookFault.TheVariants.{NotAllowed, TooMany}
use Rattle.book_text.specs.declared.parser.Open.{Open}
use Rattle.book_text.specs.declared.parser.Parser.{Parser}
use Rattle.book_text.specs.declared.parser.Stack.{Stack}
use Rattle.book_text.specs.declared.parser.State.{State}
use Rattle.book_text.specs.declared.parser.State.TheVariants.{After}
use Rattle.book_text.specs.Parsers.{state_of_stage, rows_in}
use Rattle.book_text.specs.Stacks.{floor, waiting_on, pushed, closed_rows}

-- two states are the same
abbrev pub is_at : State → State → Bool
is_at q r = state_number (state_of_stage q) == state_number (state_of_stage r)

-- a parser with another state and stack
abbrev pub with_stack : State → Stack → Parser → Parser
with_stack q s d = record {
  state = q;
  at = d.at;
  stack = s;
  first = d.first;
  rows = d.rows;
  names = d.names;
  lefts = d.lefts;
  titles = d.titles;
  done = d.done;
}

-- a parser in another state
abbrev pub in_state : State → Parser → Parser
in_state q d = with_stack q d.stack d

-- a state goes on to another where it is the one that is wanted
abbrev pub Passes : Parser → State → State → ℕ → Parser → Result (Unit {0}) BookFault → Type 0
Passes d wanted next at d' (Ok done) = (is_at d.state wanted ≡ true) × (d' ≡ in_state next d)
Passes d wanted next at d' (Err f) = (is_at d.state wanted ≡ false) × (f ≡ NotAllowed at)

-- the same with one more op, where there can be one more
abbrev pub Opens : Parser → State → Open → State → ℕ → Parser → Result (Unit {0}) BookFault → Type 0
Opens d wanted op next at d' (Ok done) = (is_at d.state wanted ≡ true) × (d.stack.pending + 1 < 2 ^ 64 → d' ≡ with_stack next (pushed d.stack op) d)
Opens d wanted op next at d' (Err f) = (is_at d.state wanted ≡ false) × (f ≡ NotAllowed at)

-- the ops above the floor are gone
abbrev pub popped : Stack → Stack
popped s = record { ops = s.ops; pending = floor s; floors = s.floors }

-- other parentheses are open
abbrev pub with_floors : List ℕ → Stack → Stack
with_floors floors s = record { ops = s.ops; pending = s.pending; floors = record { items = floors } }

-- the innermost parenthesis is gone
abbrev pub closed : Stack → Stack
closed s = with_floors (take (length s.floors.items - 1) s.floors.items) s

-- behind a complete term, with so many rows
abbrev pub behind_term : Parser → Stack → ℕ → Parser
behind_term d s rows = record {
  state = After;
  at = d.at;
  stack = s;
  first = d.first;
  rows = rows;
  names = d.names;
  lefts = d.lefts;
  titles = d.titles;
  done = d.done;
}

-- n rows from a first one on are few, and fit in those that are lent; or they are too many
abbrev pub Fits : (n first lent : ℕ) → Type 0
Fits n first lent = (n ≤ most_places) × (first + n ≤ lent)

abbrev pub TooManyRows : (n first lent : ℕ) → Type 0
TooManyRows n first lent = (most_places < n) ⊎ (lent < first + n)

-- a term is complete with the ops that wait for it, on a stack s and behind rows R; then there are n rows in all
pub record Finished (d : Parser) (s : Stack) (places : List Place) (R : List Place) (d' : Parser) (places' : List Place) (n : ℕ) : Type 0 where
  pub parser : d' ≡ behind_term d (popped s) n
  pub few : n ≤ most_places
  pub room : d.first + n ≤ length places
  pub table : rows_in d.first n places' ≡ closed_rows s.ops (floor s) (waiting_on s) R
  pub front : take d.first places' ≡ take d.first places
  pub size : length places' ≡ length places

abbrev pub Finishes : Parser → Stack → List Place → List Place → ℕ → Parser → List Place → ℕ → Result (Unit {0}) BookFault → Type 0
Finishes d s places R at d' places' n (Ok done) = Finished d s places R d' places' n
Finishes d s places R at d' places' n (Err f) = (f ≡ TooMany at) × TooManyRows n d.first (length places)
