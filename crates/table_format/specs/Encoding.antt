-- The bytes of a maker's table. Assumes nothing.
use Rattle.std.specs.Prelude.{ℕ, ◌+◌, ◌*◌, List, ◌∷◌, ◌++◌, length, Some, None, Option}
use Rattle.action.specs.Lists.{each}
use Rattle.table_format.specs.Numbers.{two, action_byte, mark_byte}
use Rattle.table_format.specs.Records.{MoveRecord, StateRecord, ModuleRecord}

abbrev pub move_bytes : MoveRecord → List ℕ
move_bytes m = action_byte m.action ∷ (mark_byte m.urgent ∷ two m.target)

-- This number stands for no tick. It is no state, as no module has so many.
abbrev pub no_tick : ℕ
no_tick = 65535

abbrev pub tick_number : Option ℕ → ℕ
tick_number None = no_tick
tick_number (Some d) = d

-- A length counts the bytes that follow it.
abbrev pub state_bytes : StateRecord → List ℕ
state_bytes r = two (3 + 4 * length r.moves) ++ (two (tick_number r.tick) ++ (length r.moves ∷ each move_bytes r.moves))

-- what follows the length of a module
abbrev pub module_rest : ModuleRecord → List ℕ
module_rest s = two (length s.states) ++ (two s.start ++ each state_bytes s.states)

abbrev pub module_bytes : ModuleRecord → List ℕ
module_bytes s = two (length (module_rest s)) ++ module_rest s

-- the version, the number of modules, the modules
abbrev pub encoded : List ModuleRecord → List ℕ
encoded ss = 1 ∷ (two (length ss) ++ each module_bytes ss)
