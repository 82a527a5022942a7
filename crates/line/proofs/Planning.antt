-- A plan, tried port by port and slot by slot. Assumes nothing.
use Rattle.std.proofs.Common.{◌≡◌, ℕ, zero, suc, ◌+◌, ◌<◌, ◌≤◌, true, false, eqb, List, [], ◌∷◌, ◌++◌, map, length, get_or, take, drop, set, ℤ, pos, Some, None, Ok, Err, sym, ap, ◌∙◌, subst, arith, length-set}
use lib.ListN.{get_or-map, length-map}
use Rattle.std.proofs.lemmas.List.{at_drop_all, take_more, take_more_set, take_all, map_push}
use Rattle.action.specs.Lists.{all, any}
use Rattle.action.specs.Action.{same}
use Rattle.action.specs.declared.set.ActionSet.{ActionSet}
use Rattle.catalogue.specs.Catalogue.{Catalogue, Lawful}
use Rattle.line_rules.specs.declared.DrawFault.{DrawFault}
use Rattle.line_rules.specs.Line as rules
use Rattle.line_rules.specs.Drawing.{is_port, slots_fault, draw_fault, planned}
use Rattle.line_rules.specs.Swapping.{NoHistorySlows}
use Rattle.line_rules.proofs.Histories.{no_history_slows}
use Rattle.line_rules.proofs.Drawn.{plan_drawn, slot_passes, slot_stops, to_come, ports_taken}
use Rattle.line.specs.declared.lines.Slot.{Slot}
use Rattle.line.specs.declared.lines.drawing.SlotPlan.{SlotPlan}
use Rattle.line.specs.Meaning.{slot_of, plan_of, plans, Ported, Fitting}

-- ── hidden ports ──

pub record PortsSoFar (ps : List ℕ) (i : ℕ) (set : ActionSet) : Type 0 where
  -- the ports so far are ports, and what was gathered with those to come is the whole
  pub good : all is_port (drop i ps) ≡ all is_port ps
  pub gathered : (a : ℤ) → to_come set (drop i ps) a ≡ any (λ p. same (pos p) a) ps

module _ (ps : List ℕ) (i : ℕ) (set : ActionSet) (so_far : PortsSoFar ps i set) where
  pub port_all : length ps ≤ i → Ported ps (Some set)
  port_all l =
      let good : all is_port ps ≡ true = sym so_far.good ∙ at_drop_all (all is_port) ps i l in
      (good, ports_taken set ps good (λ a. sym (at_drop_all (λ qs. to_come set qs a) ps i l) ∙ so_far.gathered a))

-- ── slots ──

pub record SlotsSoFar (ms : Catalogue) (xs : List rules.Slot) (i : ℕ) (held : List Slot) : Type 0 where
  pub whole : length held ≡ 16
  pub fitted : map slot_of (take i held) ≡ take i xs
  pub faults : slots_fault ms (drop i xs) ≡ slots_fault ms xs

module _ (ms : Catalogue) (xs : List rules.Slot) (i : ℕ) (held : List Slot) (so_far : SlotsSoFar ms xs i held) (few : length xs ≤ 16) (l : i < length xs) where
  pub slot_more : (x : Slot) → Fitting ms (get_or xs i rules.no_slot) (Ok x) → SlotsSoFar ms xs (i + 1) (set held i x)
  slot_more x f = record {
    whole = length-set held i x ∙ so_far.whole;
    fitted = ap (map slot_of) (take_more_set held i x (omega (arith, so_far.whole))) ∙ map_push slot_of (take i held) x ∙ ap (λ ys. ys ++ (slot_of x ∷ [])) so_far.fitted ∙ ap (λ y. take i xs ++ (y ∷ [])) f.1 ∙ sym (take_more xs i rules.no_slot l);
    faults = sym (slot_passes ms xs i l f.0) ∙ so_far.faults;
  }

  pub slot_wrong : (e : DrawFault) → Fitting ms (get_or xs i rules.no_slot) (Err e) → slots_fault ms xs ≡ Some e
  slot_wrong e f = sym so_far.faults ∙ slot_stops ms xs i l e f

pub slot_all : (ms : Catalogue) (xs : List rules.Slot) (i : ℕ) (held : List Slot) → SlotsSoFar ms xs i held → length xs ≤ i → (slots_fault ms xs ≡ None) × (map slot_of (take i held) ≡ xs)
slot_all ms xs i held so_far l = (sym so_far.faults ∙ at_drop_all (slots_fault ms) xs i l, so_far.fitted ∙ take_all i xs l)

-- ── the whole plan ──

-- the slot that is planned at i
pub plan_at : (ps : List SlotPlan) (i : ℕ) (d : SlotPlan) → get_or (plans ps) i (plan_of d) ≡ plan_of (get_or ps i d)
plan_at ps i d = get_or-map plan_of ps i d

pub plans_long : (ps : List SlotPlan) → length (plans ps) ≡ length ps
plans_long ps = length-map ps plan_of

pub not_none : (n : ℕ) → eqb n 0 ≡ false → 1 ≤ n
not_none zero e = let z : ◌≡◌ {A = ℕ} 0 1 = cc in absurd (omega arith)
not_none (suc n) e = omega arith

module _ (ms : Catalogue) (lawful : Lawful ms) (xs : List rules.Slot) (hidden : List ℕ) (l : rules.Line) where
  -- all that the contract says of a line that is drawn
  pub record DrawsSo : Type 0 where
    pub answer : (draw_fault ms xs hidden ≡ None) × (l ≡ planned xs hidden)
    pub drawn : rules.Drawn ms l
    pub promise : NoHistorySlows ms l

  pub draws_so : draw_fault ms xs hidden ≡ None → l ≡ planned xs hidden → DrawsSo
  draws_so e is =
      let d = plan_drawn ms xs hidden e in
      record { answer = (e, is); drawn = subst (rules.Drawn ms) (sym is) d; promise = subst (NoHistorySlows ms) (sym is) (no_history_slows ms lawful (planned xs hidden) d) }
