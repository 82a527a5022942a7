-- The law of makers' tables: taken exactly where the bytes are an encoding of modules that keep the laws. Assumes nothing.
use Rattle.std.specs.Prelude.{◌≡◌, ℕ, ◌<◌, ◌≤◌, true, List, map, length, is_some, Some, None}
use Rattle.action.specs.Lists.{◌∈◌}
use Rattle.catalogue.specs.Catalogue.{Lawful}
use Rattle.table_format.specs.declared.fault.TableFault.{TableFault}
use Rattle.table_format.specs.Numbers.{two_byte_end}
use Rattle.table_format.specs.Records.{StateRecord, ModuleRecord, meant_module}
use Rattle.table_format.specs.Encoding.{encoded, module_rest}
use Rattle.table_format.specs.Reading.{meaning}
use Rattle.table_format.specs.Taking.{fault, number, place, most_table_modules, most_table_states, most_table_moves}

-- A module that a record can hold: few enough states and moves, and a rest that is short enough for its length to be told in two bytes.
pub record Writable (s : ModuleRecord) : Type 0 where
  pub few_states : length s.states ≤ most_table_states
  pub few_moves : (r : StateRecord) → r ∈ s.states → length r.moves ≤ most_table_moves
  pub short : length (module_rest s) < two_byte_end

-- Modules that a table can carry: few enough, each of them writable, and together lawful as a catalogue.
pub record Carried (ss : List ModuleRecord) : Type 0 where
  pub few : length ss ≤ most_table_modules
  pub writable : (s : ModuleRecord) → s ∈ ss → Writable s
  pub lawful : Lawful (map meant_module ss)

-- b is the table of the modules ss
pub record TableOf (ss : List ModuleRecord) (b : List ℕ) : Type 0 where
  pub carried : Carried ss
  pub written : b ≡ encoded ss

-- The law, at the bytes b.
pub record LawOf (b : List ℕ) : Type 0 where
  -- what is taken is the table of some modules ..
  pub taken : fault b ≡ None → (ss : List ModuleRecord) × TableOf ss b
  -- .. and the table of any modules is taken, and means them
  pub takes : (ss : List ModuleRecord) → TableOf ss b → (fault b ≡ None) × (meaning b ≡ map meant_module ss)
  -- what a taken table means is lawful
  pub lawful : fault b ≡ None → Lawful (meaning b)
  -- a fault has a number, and lies in the bytes or at their end
  pub numbered : (f : TableFault) → fault b ≡ Some f → is_some (number f) ≡ true
  pub within : (f : TableFault) → fault b ≡ Some f → place f ≤ length b
