-- One module put into one slot of a line. Assumes nothing.
use Rattle.std.proofs.Common.{◌≡◌, ℕ, ◌<◌, ◌≢◌, length, sym, refl, ap, subst, length-set}
use native.Mathlib.Decide.{ℕ_discrete}
use Rattle.std.proofs.lemmas.List.{get_or-set_same, get_or-set_other}
use Rattle.line_rules.specs.Line.{Slot, Line, no_slot, slot}
use Rattle.line_rules.specs.Swapping.{put}
use Rattle.line_rules.proofs.Congruence.{Alike}

module _ (l : Line) (k m : ℕ) (within : k < length l.slots) where
  abbrev fitted : Slot
  fitted = record { holds = m; wiring = (slot l k).wiring }

  pub slot_here : slot (put l k m) k ≡ record { holds = m; wiring = (slot l k).wiring }
  unfolding put
  slot_here = get_or-set_same l.slots k fitted no_slot within

  pub slot_there : (i : ℕ) → i ≢ k → slot (put l k m) i ≡ slot l i
  unfolding put
  slot_there i d = get_or-set_other l.slots k i fitted no_slot d

  put_wiring : (i : ℕ) → (slot (put l k m) i).wiring ≡ (slot l i).wiring
  put_wiring i = go (ℕ_discrete i k)
    where
      go : Dec (i ≡ k) → (slot (put l k m) i).wiring ≡ (slot l i).wiring
      go (yes e) = subst (λ j. (slot (put l k m) j).wiring ≡ (slot l j).wiring) (sym e) (ap (λ (s : Slot). s.wiring) slot_here)
      go (no d) = ap (λ (s : Slot). s.wiring) (slot_there i d)

  pub put_alike : Alike (put l k m) l
  unfolding put
  put_alike = record { wide = length-set l.slots k fitted; wirings = put_wiring; hides = refl }
