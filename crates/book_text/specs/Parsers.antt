-- What a parser and the lent rows stand for: a reading in progress. Assumes nothing.
use Rattle.std.specs.Prelude.{ℕ, zero, suc, ◌+◌, ◌-◌, List, [], ◌∷◌, ◌++◌, map, length, take, drop, slice_index, slice_index_or}
use Rattle.rows.specs.declared.row.Place.{Place}
use Rattle.rows.specs.declared.row.Place.TheVariants.{Nil, Act, Wait, Sum, Name}
use Rattle.rows.specs.declared.row.ModuleRow.{ModuleRow}
use Rattle.book_text.specs.declared.parser.Parser.{Parser}
use Rattle.book_text.specs.declared.parser.Stack.{Stack}
use Rattle.book_text.specs.declared.parser.Span.{Span}
use Rattle.book_text.specs.declared.parser.Label.{Label}
use Rattle.book_text.specs.declared.parser.Open.{Open}
use Rattle.book_text.specs.declared.parser.Open.TheVariants.{Waiting, Acting, Adding}
use Rattle.book_text.specs.declared.parser.State.{State}
use Rattle.book_text.specs.declared.parser.State.TheVariants.{Outside, Title, Brace, Left, Equal, Term, Point, After}
use Rattle.book_grammar.specs.Rows.{Row, Side, side}
use Rattle.book_grammar.specs.Rows.Row.{plain, named}
use Rattle.book_grammar.specs.Reading.{Reading, Open as Entry, State as Stage}
use Rattle.book_grammar.specs.Reading.State.{outside, title, brace, left, equal, term, point, after}
use Rattle.book_grammar.specs.Reading.Open.{waiting, acting, adding, paren}

abbrev pub state_of_stage : State → Stage
state_of_stage Outside = outside
state_of_stage Title = title
state_of_stage Brace = brace
state_of_stage Left = left
state_of_stage Equal = equal
state_of_stage Term = term
state_of_stage Point = point
state_of_stage After = after

abbrev pub open_in : Open → Entry
open_in Waiting = waiting
open_in (Acting a) = acting a
open_in (Adding k) = adding k

-- the op with a number; one that is not kept counts as a wait
abbrev pub op_at : List Open → ℕ → Open
op_at ops i = slice_index_or ops i Waiting

-- the n ops from number `low` on, the last one first
abbrev pub above : List Open → ℕ → ℕ → List Entry
above ops low zero = []
above ops low (suc n) = open_in (op_at ops (low + n)) ∷ above ops low n

-- how many ops are open around the innermost of k parentheses
abbrev pub floor_of : List ℕ → ℕ → ℕ
floor_of floors zero = 0
floor_of floors (suc k) = slice_index floors k

-- what is open with k parentheses and n ops, the innermost first
abbrev pub opened_in : List Open → List ℕ → ℕ → ℕ → List Entry
opened_in ops floors zero n = above ops 0 n
opened_in ops floors (suc k) n = above ops (slice_index floors k) (n - slice_index floors k) ++ paren ∷ opened_in ops floors k (slice_index floors k)

-- what is open on a stack
abbrev pub opened_on : Stack → List Entry
opened_on s = opened_in s.ops s.floors.items (length s.floors.items) s.pending

-- the bytes of a name
abbrev pub part_in : List ℕ → Span → List ℕ
part_in text s = take s.size (drop s.at text)

abbrev pub label_in : List ℕ → Label → List ℕ
label_in text l = part_in text l.name

-- a left side with the place of its right side
abbrev pub side_in : List ℕ → Label → Side
side_in text l = side (label_in text l) l.place

-- a row; where it is a name, that stands at the span
abbrev pub row_in : List ℕ → Span → Place → Row
row_in text s Nil = plain Nil
row_in text s (Act a k) = plain (Act a k)
row_in text s (Wait k) = plain (Wait k)
row_in text s (Sum j k) = plain (Sum j k)
row_in text s (Name k) = named (part_in text s)

abbrev pub rows_view : List ℕ → List Span → List Place → List Row
rows_view text spans [] = []
rows_view text [] (p ∷ ps) = []
rows_view text (s ∷ spans) (p ∷ ps) = row_in text s p ∷ rows_view text spans ps

-- the rows of the module at hand
abbrev pub rows_in : ℕ → ℕ → List Place → List Place
rows_in first rows places = take rows (drop first places)

-- the reading that the parser and the rows stand for
unfoldable pub view : List ℕ → Parser → List Place → List ModuleRow → Reading
view text d places modules = record {
  state = state_of_stage d.state;
  opened = opened_on d.stack;
  rows = rows_view text d.names (rows_in d.first d.rows places);
  sides = map (side_in text) d.lefts.items;
  titles = map (label_in text) d.titles.items;
  places = take d.first places;
  modules = take d.done modules;
}
