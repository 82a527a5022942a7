-- The examples hold by computation. Assumes nothing.
use Rattle.std.proofs.Common.{◌≡◌, ℕ, zero, suc, ◌<◌, true, false, T, [], ◌∷◌, get_or, Some, Ok, Err, refl, ap, ◌∙◌, subst, arith}
use Rattle.action.specs.Action.{internal}
use Rattle.action.specs.Sets.{has, actions, members, within, meets, packed, set_of}
use Rattle.renaming.specs.Renaming.{image, full, first_wrong, first_shared}
use Rattle.renaming.specs.Faults.{fault}
use Rattle.catalogue.specs.Catalogue.{state}
use Rattle.pair_table.specs.Pairs.{leads_to, explored, rows, pair_count}
use Rattle.pair_table.specs.Rounds.{keeps, refined, round, rank, first_rank}
use Rattle.pair_table.specs.Tables.{answer}
use Rattle.line_rules.specs.declared.SwapFault.TheVariants.{Slower}
use Rattle.line_rules.specs.Line.{slot, inside, Hidden, Ticking}
use Rattle.line_rules.specs.Drawing.{slot_fault, draw_fault}
use Rattle.line_rules.specs.Swapping.{asked, swap_answer, put, left_by}
use Rattle.line_rules.specs.Time.{urgents, ticks}
use Rattle.line_rules.specs.Cases.{works, hall, lone, Worked}
use Rattle.line_rules.proofs.TimeTold.{urged_is}

calm_first : has (urgents works hall (0 ∷ (0 ∷ []))) internal ≡ false
unfolding has actions members within meets packed set_of image urgents
calm_first = refl

open_hall : ¬ Hidden hall internal
unfolding has packed set_of
open_hall h = h

wired : (i : ℕ) → i < 2 → full (slot hall i).wiring ≡ true
wired zero l = refl
wired (suc zero) l = refl
wired (suc (suc i)) l = absurd (omega arith)

-- a tick of the line of !1.0 and w.?1.0, from its start
leads_on : Ticking works hall (0 ∷ (0 ∷ [])) (0 ∷ (1 ∷ []))
leads_on = record { wide = refl; slots = at; calm = λ u. subst T calm_first ((urged_is works hall wired open_hall (0 ∷ (0 ∷ [])) internal).1 u) }
  where
    at : (i : ℕ) → i < 2 → (state (inside works hall i) (get_or (0 ∷ (0 ∷ [])) i 0)).tick ≡ Some (get_or (0 ∷ (1 ∷ [])) i 0)
    at zero l = refl
    at (suc zero) l = refl
    at (suc (suc i)) l = absurd (omega arith)

-- Fast for Slow, and Slow for Fast
fast_for_slow : swap_answer works (lone 0) (asked 0 1 4) ≡ Ok 4
unfolding has actions within packed set_of leads_to explored rows pair_count keeps refined round rank first_rank answer swap_answer
fast_for_slow = refl

slow_for_fast : swap_answer works (lone 1) (asked 0 0 4) ≡ Err (Slower 1)
unfolding has actions within packed set_of leads_to explored rows pair_count keeps refined round rank first_rank answer swap_answer
slow_for_fast = refl

fast_now : put (lone 0) 0 1 ≡ lone 1
unfolding put
fast_now = refl

pub worked : Worked
unfolding has actions members within meets packed set_of image first_wrong first_shared fault leads_to explored rows pair_count answer slot_fault draw_fault swap_answer urgents ticks
worked = record {
  drawn = refl;
  begins = refl;
  ticks_first = refl;
  none_first = refl;
  leads = leads_on;
  then_not = refl;
  then_internal = refl;
  alone = refl;
  both = refl;
  put_in = fast_for_slow;
  holds_fast = ap (left_by (lone 0) (asked 0 1 4)) fast_for_slow ∙ fast_now;
  held_back = slow_for_fast;
  keeps_fast = ap (left_by (lone 1) (asked 0 0 4)) slow_for_fast;
  no_such_slot = refl;
  none_known = refl;
  old_known = refl;
  too_small = refl;
  no_slots = refl;
  not_a_port = refl;
  not_known = refl;
}
