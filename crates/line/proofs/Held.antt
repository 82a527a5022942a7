-- What a line that is held means, slot by slot. Assumes nothing.
use Rattle.std.proofs.Common.{◌≡◌, ℕ, zero, suc, ◌<◌, true, List, [], ◌∷◌, map, length, get_or, take, ◌∙◌, arith, length-take}
use lib.ListN.{length-map}
use Rattle.renaming.specs.Renaming.{full}
use Rattle.line_rules.specs.Line as rules
use Rattle.line.specs.declared.lines.Slot.{Slot}
use Rattle.line.specs.declared.lines.Line.{Line}
use Rattle.line.specs.Meaning.{slot_of, line_of}

-- every slot has a signal for each port
signals : (xs : List Slot) (i : ℕ) → i < length xs → full (get_or (map slot_of xs) i rules.no_slot).wiring ≡ true
signals [] i h = absurd (omega arith)
signals (x ∷ xs) zero h = x.renaming.full
signals (x ∷ xs) (suc i) h = signals xs i (omega arith)

module _ (l : Line) where
  pub count_is : length (line_of l).slots ≡ l.count
  count_is = length-map (take l.count l.slots) slot_of ∙ omega (arith, length-take l.count l.slots, l.few, l.whole)

  pub wired : (i : ℕ) → i < length (line_of l).slots → full (rules.slot (line_of l) i).wiring ≡ true
  wired i k = signals (take l.count l.slots) i (omega (arith, length-map (take l.count l.slots) slot_of))
