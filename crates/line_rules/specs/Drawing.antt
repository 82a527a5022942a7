-- Drawing a line: what is wrong with a plan, and the line that it gives. Assumes nothing.
use Rattle.std.specs.Prelude.{◌≡◌, ℕ, ◌<◌, ◌≤◌, Bool, true, false, ◌&&◌, ◌↔◌, List, [], ◌∷◌, length, pos, Some, None, Option, nat_le, nat_lt, slice_index_or}
use Rattle.action.specs.Lists.{◌∈◌, all, any}
use Rattle.action.specs.Action.{last_port, same}
use Rattle.action.specs.declared.set.ActionSet.{ActionSet}
use Rattle.action.specs.Sets.{set_of}
use Rattle.renaming.specs.declared.fault.RenamingFault.{RenamingFault}
use Rattle.renaming.specs.Faults.{fault, number, Wires}
use Rattle.catalogue.specs.Catalogue.{Catalogue}
use Rattle.line_rules.specs.declared.DrawFault.{DrawFault}
use Rattle.line_rules.specs.declared.DrawFault.TheVariants.{SlotCount, HiddenPort, Renaming, UnknownModule}
use Rattle.line_rules.specs.Line.{Slot, Line, no_slot, most_slots}

-- the number that a refusal is told by
abbrev pub draw_number : DrawFault → ℕ
draw_number SlotCount = 18
draw_number HiddenPort = 20
draw_number (Renaming e) = number e
draw_number UnknownModule = 19

abbrev pub is_port : ℕ → Bool
is_port p = nat_le 1 p && nat_le p last_port

-- the set of the ports of a list
abbrev pub ports : List ℕ → ActionSet
ports ps = set_of (λ a. any (λ p. same (pos p) a) ps)

-- what is wrong with a slot: its renaming is tried first, then its module
abbrev pub wiring_or : Option RenamingFault → Option DrawFault → Option DrawFault
wiring_or (Some e) o = Some (Renaming e)
wiring_or None o = o

abbrev pub unknown : Catalogue → ℕ → Option DrawFault
unknown ms m = elim (nat_lt m (length ms)) [ true ↦ None | false ↦ Some UnknownModule ]

unfoldable pub slot_fault : Catalogue → Slot → Option DrawFault
slot_fault ms x = wiring_or (fault x.wiring) (unknown ms x.holds)

-- the first of them that there is
abbrev pub sooner : Option DrawFault → Option DrawFault → Option DrawFault
sooner (Some e) o = Some e
sooner None o = o

abbrev pub slots_fault : Catalogue → List Slot → Option DrawFault
slots_fault ms [] = None
slots_fault ms (x ∷ xs) = sooner (slot_fault ms x) (slots_fault ms xs)

-- What is wrong with a plan: the number of its slots, then its hidden ports, then its slots one by one.
unfoldable pub draw_fault : Catalogue → List Slot → List ℕ → Option DrawFault
draw_fault ms xs hidden =
    elim (nat_le 1 (length xs) && nat_le (length xs) most_slots) [
      | true ↦ elim (all is_port hidden) [ true ↦ slots_fault ms xs | false ↦ Some HiddenPort ]
      | false ↦ Some SlotCount
    ]

-- The line that a plan gives: just these slots, and just these ports hidden.
abbrev pub planned : List Slot → List ℕ → Line
planned xs hidden = record { slots = xs; hidden = ports hidden }

-- A plan that can be drawn.
pub record SoundPlan (ms : Catalogue) (xs : List Slot) (hidden : List ℕ) : Type 0 where
  pub some_slot : 1 ≤ length xs
  pub few_slots : length xs ≤ most_slots
  pub ported : (p : ℕ) → p ∈ hidden → (1 ≤ p) × (p ≤ last_port)
  pub wires : (i : ℕ) → i < length xs → Wires (slice_index_or xs i no_slot).wiring
  pub known : (i : ℕ) → i < length xs → (slice_index_or xs i no_slot).holds < length ms

-- Just such plans have no fault.
abbrev pub Draws : Catalogue → List Slot → List ℕ → Type 0
Draws ms xs hidden = (draw_fault ms xs hidden ≡ None) ↔ SoundPlan ms xs hidden
