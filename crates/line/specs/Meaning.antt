-- What a line that is held, and what a plan of one, means. Assumes nothing.
use Rattle.std.specs.Prelude.{◌≡◌, ℕ, true, false, List, map, take, ℤ, Some, None, Ok, Err, Option, Result}
use Rattle.action.specs.Lists.{all}
use Rattle.action.specs.declared.set.ActionSet.{ActionSet}
use Rattle.catalogue.specs.Catalogue.{Catalogue}
use Rattle.line_rules.specs.declared.DrawFault.{DrawFault}
use Rattle.line_rules.specs.Line as rules
use Rattle.line_rules.specs.Drawing.{is_port, ports, slot_fault, draw_fault, planned}
use Rattle.line.specs.declared.lines.Slot.{Slot}
use Rattle.line.specs.declared.lines.Line.{Line}
use Rattle.line.specs.declared.lines.drawing.SlotPlan.{SlotPlan}

abbrev pub wired_so : ℕ → List ℤ → rules.Slot
wired_so m f = record { holds = m; wiring = f }

abbrev pub slot_of : Slot → rules.Slot
slot_of x = wired_so x.holds x.renaming.entries

-- the first slots are in use
abbrev pub line_of : Line → rules.Line
line_of l = record { slots = map slot_of (take l.count l.slots); hidden = l.hidden }

-- .. as they are held
abbrev pub in_use : Line → List Slot
in_use l = take l.count l.slots

abbrev pub plan_of : SlotPlan → rules.Slot
plan_of p = wired_so p.holds p.entries.now

abbrev pub plans : List SlotPlan → List rules.Slot
plans ps = map plan_of ps

-- The set of the ports of a list, where all of them are ports.
abbrev pub Ported : List ℕ → Option ActionSet → Type 0
Ported ps (Some s) = (all is_port ps ≡ true) × (s ≡ ports ps)
Ported ps None = all is_port ps ≡ false

-- The slot as planned, or what is wrong with it.
abbrev pub Fitting : Catalogue → rules.Slot → Result Slot DrawFault → Type 0
Fitting ms p (Ok x) = (slot_fault ms p ≡ None) × (slot_of x ≡ p)
Fitting ms p (Err e) = slot_fault ms p ≡ Some e

-- The answer to a plan: the line with just its slots and hidden ports, or its fault.
abbrev pub Drawing : Catalogue → List rules.Slot → List ℕ → Result Line DrawFault → Type 0
Drawing ms xs hidden (Ok l) = (draw_fault ms xs hidden ≡ None) × (line_of l ≡ planned xs hidden)
Drawing ms xs hidden (Err e) = draw_fault ms xs hidden ≡ Some e
