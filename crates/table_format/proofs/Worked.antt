-- The worked examples, computed. Assumes nothing.
use Rattle.std.proofs.Common.{refl}
use Rattle.action.specs.Sets.{set_of, has, members, actions, packed}
use Rattle.table_format.specs.Taking.{fault, state_fault, module_fault}
use Rattle.table_format.specs.Worked.{Worked}

pub worked : Worked
unfolding fault state_fault module_fault set_of has members actions packed
worked = record {
  nil_taken = refl;
  nil_means = refl;
  nil_stopped = refl;
  empty_taken = refl;
  empty_means = refl;
  no_bytes = refl;
  two_taken = refl;
  two_moves = refl;
  two_urgent = refl;
  two_tick = refl;
  wrong_version = refl;
  short_count = refl;
  many_modules = refl;
  left_in_file = refl;
  short_length = refl;
  long_module = refl;
  short_states = refl;
  no_states = refl;
  many_states = refl;
  short_start = refl;
  wrong_start = refl;
  left_in_module = refl;
  no_length = refl;
  small_length = refl;
  long_state = refl;
  wrong_length = refl;
  wrong_tick = refl;
  many_moves = refl;
  tick_and_urgent = refl;
  high_action = refl;
  low_action = refl;
  wrong_mark = refl;
  wrong_target = refl;
}
