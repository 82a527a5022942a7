-- The examples hold by computation. Assumes nothing.
use Rattle.std.proofs.Common.{refl}
use Rattle.action.specs.Sets.{has, actions, within, packed, set_of}
use Rattle.pair_table.specs.Pairs.{leads_to, explored, rows, pair_count}
use Rattle.pair_table.specs.Rounds.{keeps, refined, round, rank, first_rank}
use Rattle.pair_table.specs.Tables.{answer, table_after}
use Rattle.pair_table.specs.Cases.{Worked}

pub worked : Worked
unfolding has actions within packed set_of leads_to explored rows pair_count keeps refined round rank first_rank answer table_after
worked = record {
  fast_for_slow = refl;
  slow_for_fast = refl;
  late_for_prompt = refl;
  delayed_for_inner = refl;
  inner_for_delayed = refl;
  none_known = refl;
  old_known = refl;
  too_small = refl;
  no_rows = refl;
  all_rows = refl;
  first_rows = refl;
  untouched = refl;
}
