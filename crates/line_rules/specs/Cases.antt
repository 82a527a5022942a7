-- Small lines, worked out by the rules, and a line that can be drawn. Assumes nothing.
use Rattle.std.specs.Prelude.{◌≡◌, ℕ, true, false, ◌||◌, List, [], ◌∷◌, ◌++◌, ℤ, pos, negsuc, Some, None, Ok, Err, Option}
use Rattle.action.specs.declared.set.ActionSet.{ActionSet}
use Rattle.action.specs.Action.{same}
use Rattle.action.specs.Sets.{set_of, no_actions, members}
use Rattle.renaming.specs.Renaming.{each_to_itself}
use Rattle.catalogue.specs.declared.Move.{Move}
use Rattle.catalogue.specs.Catalogue.{Catalogue, Module, State, Lawful, move}
use Rattle.pair_table.specs.declared.CompareFault.TheVariants.{UnknownOld, UnknownNew, TableTooSmall}
use Rattle.pair_table.specs.Cases.{shop}
use Rattle.line_rules.specs.declared.DrawFault.TheVariants.{SlotCount, HiddenPort, UnknownModule}
use Rattle.line_rules.specs.declared.SwapFault.TheVariants.{UnknownSlot, Compare, Slower}
use Rattle.line_rules.specs.Line.{Slot, Line, Drawn, line_running}
use Rattle.line_rules.specs.Drawing.{draw_fault, planned}
use Rattle.line_rules.specs.Swapping.{asked, swap_answer, swapped}
use Rattle.line_rules.specs.Time.{urgents, ticks}

abbrev state_of : List Move → ActionSet → Option ℕ → State
state_of ms u t = record { moves = ms; urgent = u; tick = t }

abbrev only : ℤ → ActionSet
only a = set_of (same a)

abbrev nil : ℕ → State
nil c = state_of [] no_actions (Some c)

-- !1.0, w.?1.0 and !1.0 + ?1.0, with the codes that are reached
abbrev sender : Module
sender = record { start = 0; states = state_of (move (negsuc 0) 1 ∷ []) (only (negsuc 0)) (Some 0) ∷ (nil 1 ∷ []) }

abbrev receiver : Module
receiver = record {
  start = 0;
  states = state_of (move (pos 1) 2 ∷ []) no_actions (Some 1) ∷ (state_of (move (pos 1) 2 ∷ []) (only (pos 1)) (Some 1) ∷ (nil 2 ∷ []));
}

abbrev either : Module
either = record {
  start = 0;
  states = state_of (move (negsuc 0) 1 ∷ (move (pos 1) 1 ∷ [])) (set_of (λ a. same (negsuc 0) a || same (pos 1) a)) (Some 0) ∷ (nil 1 ∷ []);
}

-- the modules w.?1.S as S and ?1.F as F in front, and those above behind them
abbrev pub works : Catalogue
works = shop ++ (sender ∷ (receiver ∷ (either ∷ [])))

-- a slot that renames nothing
abbrev pub plain : ℕ → Slot
plain m = record { holds = m; wiring = each_to_itself }

-- the line of !1.0 and w.?1.0 with port 1 hidden
abbrev pub hall : Line
hall = planned (plain 6 ∷ (plain 7 ∷ [])) (1 ∷ [])

-- a line of one module, nothing hidden
abbrev pub lone : ℕ → Line
lone m = planned (plain m ∷ []) []

pub record Worked : Type 0 where
  -- Slots !1.0 and w.?1.0, port 1 hidden: the line starts in (0, 0) and ticks to (0, 1), nothing being urgent yet. There
  -- the two meet: the internal event is urgent, and the line does not tick.
  pub drawn : draw_fault works hall.slots (1 ∷ []) ≡ None
  pub begins : (line_running works hall).start ≡ 0 ∷ (0 ∷ [])
  pub ticks_first : ticks works hall (0 ∷ (0 ∷ [])) ≡ true
  pub none_first : members (urgents works hall (0 ∷ (0 ∷ []))) ≡ []
  pub leads : (line_running works hall).Ticks (0 ∷ (0 ∷ [])) (0 ∷ (1 ∷ []))
  pub then_not : ticks works hall (0 ∷ (1 ∷ [])) ≡ false
  pub then_internal : members (urgents works hall (0 ∷ (1 ∷ []))) ≡ pos 0 ∷ []
  -- the two actions of one slot do not meet
  pub alone : ticks works (lone 8) (0 ∷ []) ≡ true
  pub both : members (urgents works (lone 8) (0 ∷ [])) ≡ negsuc 0 ∷ (pos 1 ∷ [])
  -- Fast for Slow is put in, and Slow for Fast is held back; the line keeps what it has then
  pub put_in : swap_answer works (lone 0) (asked 0 1 4) ≡ Ok 4
  pub holds_fast : swapped works (lone 0) (asked 0 1 4) ≡ lone 1
  pub held_back : swap_answer works (lone 1) (asked 0 0 4) ≡ Err (Slower 1)
  pub keeps_fast : swapped works (lone 1) (asked 0 0 4) ≡ lone 1
  -- the other refusals, in their order
  pub no_such_slot : swap_answer works (lone 9) (asked 1 9 0) ≡ Err UnknownSlot
  pub none_known : swap_answer works (lone 9) (asked 0 9 0) ≡ Err (Compare UnknownOld)
  pub old_known : swap_answer works (lone 0) (asked 0 9 0) ≡ Err (Compare UnknownNew)
  pub too_small : swap_answer works (lone 0) (asked 0 1 3) ≡ Err (Compare TableTooSmall)
  pub no_slots : draw_fault works [] (32 ∷ []) ≡ Some SlotCount
  pub not_a_port : draw_fault works (plain 9 ∷ []) (0 ∷ []) ≡ Some HiddenPort
  pub not_known : draw_fault works (plain 9 ∷ []) (31 ∷ []) ≡ Some UnknownModule

-- F = ?1.F with the one code that is reached: its catalogue keeps the laws, and a line of it can be drawn.
abbrev pub small_shop : Catalogue
small_shop = record { start = 0; states = state_of (move (pos 1) 0 ∷ []) (only (pos 1)) (Some 0) ∷ [] } ∷ []

pub record CanBeMet : Type 0 where
  pub laws : Lawful small_shop
  pub fault : draw_fault small_shop (plain 0 ∷ []) [] ≡ None
  pub line : Drawn small_shop (lone 0)
