-- Worked examples: bytes that are taken with what they mean, and bytes that are refused with the number and the offset that are told. Assumes nothing.
use Rattle.std.specs.Prelude.{◌≡◌, ℕ, zero, suc, List, [], ◌∷◌, pos, negsuc, Some, None, Option}
use Rattle.std.specs.Option.{option_map}
use Rattle.action.specs.Sets.{members, no_actions}
use Rattle.catalogue.specs.Catalogue.{move, state_in}
use Rattle.table_format.specs.Reading.{meaning}
use Rattle.table_format.specs.Taking.{fault, number, place}

abbrev pub told : List ℕ → Option (Option ℕ × ℕ)
told b = option_map (λ f. (number f, place f)) (fault b)

abbrev pub refused : ℕ → ℕ → Option (Option ℕ × ℕ)
refused n i = Some (Some n, i)

-- one module of one state without moves, whose tick is told by the two bytes h and t
abbrev pub one_state : ℕ → ℕ → List ℕ
one_state h t = 1 ∷ 0 ∷ 1 ∷ 0 ∷ 9 ∷ 0 ∷ 1 ∷ 0 ∷ 0 ∷ 0 ∷ 3 ∷ h ∷ t ∷ 0 ∷ []

-- one module with the length n, and these bytes behind its length
abbrev pub one_module : ℕ → List ℕ → List ℕ
one_module n rest = 1 ∷ 0 ∷ 1 ∷ 0 ∷ n ∷ rest

-- one module of two states: the first is told to have n moves, ticks to t and has two moves, by the byte a, marked u, to d, and by the byte o, unmarked, to 0
abbrev pub two_states : (n t a u d o : ℕ) → List ℕ
two_states n t a u d o = 1 ∷ 0 ∷ 1 ∷ 0 ∷ 22 ∷ 0 ∷ 2 ∷ 0 ∷ 0 ∷ 0 ∷ 11 ∷ 0 ∷ t ∷ n ∷ a ∷ u ∷ 0 ∷ d ∷ o ∷ 0 ∷ 0 ∷ 0 ∷ 0 ∷ 3 ∷ 0 ∷ 1 ∷ 0 ∷ []

-- so many bytes 00
abbrev pub zeros : ℕ → List ℕ
zeros zero = []
zeros (suc n) = 0 ∷ zeros n

pub record Worked : Type 0 where
  -- nil: a single code that ticks to itself
  pub nil_taken : fault (one_state 0 0) ≡ None
  pub nil_means : meaning (one_state 0 0) ≡ record { start = 0; states = record { moves = []; urgent = no_actions; tick = Some 0 } ∷ [] } ∷ []
  pub nil_stopped : told (one_state 255 255) ≡ refused 15 11
  pub empty_taken : fault (1 ∷ 0 ∷ 0 ∷ []) ≡ None
  pub empty_means : meaning (1 ∷ 0 ∷ 0 ∷ []) ≡ []
  pub no_bytes : told [] ≡ refused 11 0
  -- two states, the first with the moves ?3 and !31, of which ?3 is urgent
  pub two_taken : fault (two_states 2 1 3 1 1 225) ≡ None
  pub two_moves : (state_in (meaning (two_states 2 1 3 1 1 225)) 0 0).moves ≡ move (pos 3) 1 ∷ move (negsuc 30) 0 ∷ []
  pub two_urgent : members (state_in (meaning (two_states 2 1 3 1 1 225)) 0 0).urgent ≡ pos 3 ∷ []
  pub two_tick : (state_in (meaning (two_states 2 1 3 1 1 225)) 0 0).tick ≡ Some 1
  -- the head of the file
  pub wrong_version : told (2 ∷ 0 ∷ 0 ∷ []) ≡ refused 11 0
  pub short_count : told (1 ∷ 0 ∷ []) ≡ refused 12 1
  pub many_modules : told (1 ∷ 0 ∷ 65 ∷ []) ≡ refused 13 1
  pub left_in_file : told (1 ∷ 0 ∷ 0 ∷ 7 ∷ []) ≡ refused 12 3
  -- the head of a module
  pub short_length : told (1 ∷ 0 ∷ 1 ∷ 0 ∷ []) ≡ refused 12 3
  pub long_module : told (one_module 1 []) ≡ refused 12 3
  pub short_states : told (one_module 1 (0 ∷ [])) ≡ refused 12 5
  pub no_states : told (one_module 4 (0 ∷ 0 ∷ 0 ∷ 0 ∷ [])) ≡ refused 13 5
  pub many_states : told (one_module 4 (16 ∷ 1 ∷ 0 ∷ 0 ∷ [])) ≡ refused 13 5
  pub short_start : told (one_module 3 (0 ∷ 1 ∷ 0 ∷ [])) ≡ refused 12 7
  pub wrong_start : told (one_module 4 (0 ∷ 1 ∷ 0 ∷ 1 ∷ [])) ≡ refused 14 7
  pub left_in_module : told (one_module 10 (0 ∷ 1 ∷ 0 ∷ 0 ∷ 0 ∷ 3 ∷ 0 ∷ 0 ∷ 0 ∷ 0 ∷ [])) ≡ refused 12 14
  -- a state
  pub no_length : told (one_module 5 (0 ∷ 1 ∷ 0 ∷ 0 ∷ 0 ∷ [])) ≡ refused 12 9
  pub small_length : told (one_module 6 (0 ∷ 1 ∷ 0 ∷ 0 ∷ 0 ∷ 2 ∷ [])) ≡ refused 12 9
  pub long_state : told (one_module 8 (0 ∷ 1 ∷ 0 ∷ 0 ∷ 0 ∷ 3 ∷ 0 ∷ 0 ∷ [])) ≡ refused 12 9
  pub wrong_length : told (two_states 1 1 3 1 1 225) ≡ refused 12 9
  pub wrong_tick : told (two_states 2 2 3 1 1 225) ≡ refused 14 11
  pub many_moves : told (1 ∷ 0 ∷ 1 ∷ 1 ∷ 13 ∷ 0 ∷ 1 ∷ 0 ∷ 0 ∷ 1 ∷ 7 ∷ 0 ∷ 0 ∷ 65 ∷ zeros 260) ≡ refused 13 13
  pub tick_and_urgent : told (two_states 2 1 0 1 1 225) ≡ refused 15 11
  -- a move
  pub high_action : told (two_states 2 1 32 1 1 225) ≡ refused 14 14
  pub low_action : told (two_states 2 1 3 1 1 128) ≡ refused 14 18
  pub wrong_mark : told (two_states 2 1 3 2 1 225) ≡ refused 14 15
  pub wrong_target : told (two_states 2 1 3 1 2 225) ≡ refused 14 16
