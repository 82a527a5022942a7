-- Small modules compared, worked out by the rules. Assumes nothing.
use Rattle.std.specs.Prelude.{◌≡◌, ℕ, zero, suc, List, [], ◌∷◌, ◌++◌, ℤ, pos, Some, None, Ok, Err, Option, Result}
use Rattle.action.specs.declared.set.ActionSet.{ActionSet}
use Rattle.action.specs.Action.{same}
use Rattle.action.specs.Sets.{set_of, no_actions}
use Rattle.catalogue.specs.declared.Move.{Move}
use Rattle.catalogue.specs.Catalogue.{Catalogue, Module, State, move}
use Rattle.pair_table.specs.declared.PairRow.{PairRow}
use Rattle.pair_table.specs.declared.Compared.{Compared}
use Rattle.pair_table.specs.declared.CompareFault.{CompareFault}
use Rattle.pair_table.specs.declared.CompareFault.TheVariants.{UnknownOld, UnknownNew, TableTooSmall}
use Rattle.pair_table.specs.Tables.{answer, table_after}

abbrev state_of : List Move → ActionSet → Option ℕ → State
state_of ms u t = record { moves = ms; urgent = u; tick = t }

abbrev only : ℤ → ActionSet
only a = set_of (same a)

-- n codes from k on, each with a tick to itself
abbrev resting : ℕ → ℕ → List Move → ActionSet → List State
resting zero k ms u = []
resting (suc n) k ms u = state_of ms u (Some k) ∷ resting n (suc k) ms u

abbrev nil : ℕ → State
nil c = state_of [] no_actions (Some c)

abbrev receives : List Move
receives = move (pos 1) 0 ∷ []

-- S = w.?1.S : the name, the action and the wait, each at the ages 0 to 15
abbrev slow : Module
slow = record {
  start = 32;
  states = (state_of receives no_actions (Some 1) ∷ resting 15 1 receives (only (pos 1)))
      ++ (resting 16 16 receives (only (pos 1)) ++ (state_of receives no_actions (Some 33) ∷ resting 15 33 receives (only (pos 1))));
}

-- F = ?1.F : the name and the action, each at the ages 0 to 15
abbrev fast : Module
fast = record { start = 16; states = resting 32 0 receives (only (pos 1)) }

-- ?2.w.?1.0 and ?2.?1.0, with the codes that are reached
abbrev late : Module
late = record {
  start = 0;
  states = state_of (move (pos 2) 1 ∷ []) (only (pos 2)) (Some 0)
      ∷ (state_of (move (pos 1) 3 ∷ []) no_actions (Some 2) ∷ (state_of (move (pos 1) 3 ∷ []) (only (pos 1)) (Some 2) ∷ (nil 3 ∷ [])));
}

abbrev prompt : Module
prompt = record {
  start = 0;
  states = state_of (move (pos 2) 1 ∷ []) (only (pos 2)) (Some 0) ∷ (state_of (move (pos 1) 2 ∷ []) (only (pos 1)) (Some 1) ∷ (nil 2 ∷ []));
}

-- w.i.0 and i.0
abbrev delayed : Module
delayed = record {
  start = 0;
  states = state_of (move (pos 0) 2 ∷ []) no_actions (Some 1) ∷ (state_of (move (pos 0) 2 ∷ []) (only (pos 0)) None ∷ (nil 2 ∷ []));
}

abbrev inner : Module
inner = record { start = 0; states = state_of (move (pos 0) 1 ∷ []) (only (pos 0)) None ∷ (nil 1 ∷ []) }

abbrev pub shop : Catalogue
shop = slow ∷ (fast ∷ (late ∷ (prompt ∷ (delayed ∷ (inner ∷ [])))))

abbrev judged : (pairs rank : ℕ) → Result Compared CompareFault
judged n k = Ok (record { pairs = n; rank = k })

abbrev held : (new old rank : ℕ) → PairRow
held p q k = record { new = p; old = q; rank = k }

-- a table of n rows that hold what no comparison writes
abbrev spent : ℕ → List PairRow
spent zero = []
spent (suc n) = held 9 9 9 ∷ spent n

pub record Worked : Type 0 where
  -- Fast for Slow, and Slow for Fast
  pub fast_for_slow : answer shop 1 0 4 ≡ judged 4 0
  pub slow_for_fast : answer shop 0 1 4 ≡ judged 4 1
  -- ?2.w.?1.0 for ?2.?1.0
  pub late_for_prompt : answer shop 2 3 4 ≡ judged 4 2
  -- w.i.0 for i.0, and the other way
  pub delayed_for_inner : answer shop 4 5 4 ≡ judged 2 1
  pub inner_for_delayed : answer shop 5 4 4 ≡ judged 2 0
  -- the refusals, in their order
  pub none_known : answer shop 6 6 4 ≡ Err UnknownOld
  pub old_known : answer shop 6 0 4 ≡ Err UnknownNew
  pub too_small : answer shop 1 0 3 ≡ Err TableTooSmall
  pub no_rows : answer shop 1 0 0 ≡ Err TableTooSmall
  -- what is left in the table: all rows, with one to spare; the first three alone; none
  pub all_rows : table_after shop 2 3 (spent 5) ≡ held 0 0 2 ∷ (held 1 1 1 ∷ (held 3 2 0 ∷ (held 2 1 0 ∷ (held 9 9 9 ∷ []))))
  pub first_rows : table_after shop 2 3 (spent 3) ≡ held 0 0 0 ∷ (held 1 1 0 ∷ (held 3 2 0 ∷ []))
  pub untouched : table_after shop 6 3 (spent 2) ≡ spent 2
