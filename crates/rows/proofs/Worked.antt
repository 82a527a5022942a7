-- The examples hold by computation. Assumes nothing.
use Rattle.std.proofs.Common.{refl}
use Rattle.action.specs.Sets.{has, set_of, packed, actions, members}
use Rattle.rows.specs.Places.{ends, depth, moves, urgent}
use Rattle.rows.specs.Opening.{places_fault, module_fault, fault, opened}
use Rattle.rows.specs.Cases.{Worked}

pub worked : Worked
unfolding has set_of packed actions members ends depth moves urgent places_fault module_fault fault opened
worked = record {
  slow_codes = refl;
  slow_starts = refl;
  slow_waits = refl;
  slow_ticks = refl;
  slow_urges = refl;
  slow_stays = refl;
  slow_moves = refl;
  mixed_moves = refl;
  mixed_urges = refl;
  mixed_rests = refl;
  unguarded_refused = refl;
  guarded_taken = refl;
  fifteen_taken = refl;
  sixteen_refused = refl;
}
