-- Where each slot ticks and nothing urges the internal event, the line ticks. Assumes nothing.
use Rattle.std.proofs.Common.{◌≡◌, ℕ, ◌<◌, List, length, get_or, Some, sym, subst}
use Rattle.action.specs.Action.{internal}
use Rattle.catalogue.specs.Catalogue.{Catalogue, state}
use Rattle.line_rules.specs.Line.{Line, inside, Urges, Ticking}
use Rattle.line_rules.proofs.Slots.{passed, passed_wide, passed_at}

pub ticked : (ms : Catalogue) (l : Line) (s : List ℕ) → ((i : ℕ) → i < length l.slots → (d : ℕ) × ((state (inside ms l i) (get_or s i 0)).tick ≡ Some d)) → ¬ Urges ms l s internal → (t : List ℕ) × Ticking ms l s t
ticked ms l s h calm = (
  passed (length l.slots) (inside ms l) s,
  record {
    wide = passed_wide (length l.slots) (inside ms l) s;
    slots = λ i k. subst (λ d. (state (inside ms l i) (get_or s i 0)).tick ≡ Some d) (sym (passed_at (length l.slots) (inside ms l) s i (h i k).0 k (h i k).1)) (h i k).1;
    calm = calm;
  },
)
