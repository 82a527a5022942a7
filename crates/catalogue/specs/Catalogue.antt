-- What a catalogue means: a list of modules, and the bounds and laws that it keeps. Assumes nothing.
use Rattle.std.specs.Prelude.{◌≡◌, ℕ, ◌<◌, ◌≤◌, not, List, [], length, ℤ, is_some, Some, None, Option, slice_index_or, unsigned_abs}
use Rattle.action.specs.Lists.{◌∈◌}
use Rattle.action.specs.Action.{internal, last_port}
use Rattle.action.specs.declared.set.ActionSet.{ActionSet}
use Rattle.action.specs.Sets.{has, no_actions, ◌∋◌}
use Rattle.catalogue.specs.declared.Move.{Move}

-- The bounds, each in this one place.
abbrev pub most_modules : ℕ
most_modules = 256

abbrev pub most_codes : ℕ
most_codes = 4096

abbrev pub most_moves : ℕ
most_moves = 64

abbrev pub move : ℤ → ℕ → Move
move a d = record { action = a; target = d }

-- What a module can do in a state, which actions are urgent in it, and where a tick of time leads, if time can pass.
pub record State : Type 0 where
  pub moves : List Move
  pub urgent : ActionSet
  pub tick : Option ℕ

-- The states of a module are numbered by its codes 0, 1, ..
pub record Module : Type 0 where
  pub start : ℕ
  pub states : List State

abbrev pub Catalogue : Type 0
Catalogue = List Module

abbrev pub codes : Module → ℕ
codes m = length m.states

abbrev pub start_of : Module → ℕ
start_of m = m.start

-- What a question finds where there is nothing.
abbrev pub nowhere : State
nowhere = record { moves = []; urgent = no_actions; tick = None }

abbrev pub absent : Module
absent = record { start = 0; states = [] }

-- the state with a code; the module with a number; a state of a module of a catalogue
abbrev pub state : Module → ℕ → State
state m c = slice_index_or m.states c nowhere

abbrev pub module_in : Catalogue → ℕ → Module
module_in ms k = slice_index_or ms k absent

abbrev pub state_in : Catalogue → ℕ → ℕ → State
state_in ms k c = state (module_in ms k) c

-- A module within the bounds that keeps the three laws.
pub record Sound (m : Module) : Type 0 where
  -- the bounds
  pub some_code : 1 ≤ codes m
  pub few_codes : codes m ≤ most_codes
  pub few_moves : (c : ℕ) → length (state m c).moves ≤ most_moves
  pub ported : (c : ℕ) (s : Move) → s ∈ (state m c).moves → unsigned_abs s.action ≤ last_port
  -- every start and target is a code of the module
  pub starts : m.start < codes m
  pub leads : (c : ℕ) (s : Move) → s ∈ (state m c).moves → s.target < codes m
  pub passes : (c d : ℕ) → (state m c).tick ≡ Some d → d < codes m
  -- an existing code has a tick exactly when the internal event is not urgent in it
  pub ticks : (c : ℕ) → c < codes m → is_some (state m c).tick ≡ not (has (state m c).urgent internal)
  -- every urgent action is offered by a move
  pub offers : (c : ℕ) (a : ℤ) → (state m c).urgent ∋ a → (d : ℕ) × (move a d ∈ (state m c).moves)

-- A catalogue of few enough modules, each of them sound.
pub record Lawful (ms : Catalogue) : Type 0 where
  pub few : length ms ≤ most_modules
  pub sound : (k : ℕ) → k < length ms → Sound (module_in ms k)
