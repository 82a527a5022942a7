-- What a maker writes of a module, and what it means: each move carries a mark, and the marked actions are the urgent set. Assumes nothing.
use Rattle.std.specs.Prelude.{ℕ, Bool, ◌&&◌, List, map, ℤ, Option}
use Rattle.action.specs.Lists.{any}
use Rattle.action.specs.Action.{same}
use Rattle.action.specs.Sets.{set_of}
use Rattle.catalogue.specs.declared.Move.{Move}
use Rattle.catalogue.specs.Catalogue.{State, Module, move}

-- a move; the mark says whether its action is urgent
pub record MoveRecord : Type 0 where
  pub action : ℤ
  pub urgent : Bool
  pub target : ℕ

pub record StateRecord : Type 0 where
  pub tick : Option ℕ
  pub moves : List MoveRecord

pub record ModuleRecord : Type 0 where
  pub start : ℕ
  pub states : List StateRecord

-- some move by this action is marked
abbrev pub marked : List MoveRecord → ℤ → Bool
marked ms a = any (λ m. m.urgent && same m.action a) ms

abbrev pub meant_move : MoveRecord → Move
meant_move m = move m.action m.target

abbrev pub meant_state : StateRecord → State
meant_state r = record { moves = map meant_move r.moves; urgent = set_of (marked r.moves); tick = r.tick }

abbrev pub meant_module : ModuleRecord → Module
meant_module s = record { start = s.start; states = map meant_state s.states }
