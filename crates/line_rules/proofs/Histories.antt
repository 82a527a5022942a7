-- No history of swaps makes a drawn line slower or brings it to a stand. Assumes nothing.
use Rattle.std.proofs.Common.{◌≡◌, ℕ, zero, suc, ◌<◌, ◌≤◌, Bool, true, false, ltb, ◌↔◌, List, [], ◌∷◌, length, ℤ, pos, nat_abs, Ok, Err, Result, sym, refl, ap, ◌∙◌, subst, arith}
use native.Mathlib.Decide.{ℕ_discrete}
use Rattle.std.proofs.lemmas.Bool.{ltb-true, leb-true, lt-ltb}
use Rattle.action.specs.Action.{internal, last_port}
use Rattle.action.specs.Sets.{◌∋◌}
use Rattle.action.proofs.Basics.{true_T}
use Rattle.catalogue.specs.Catalogue.{Catalogue, Lawful, Module, module_in}
use Rattle.catalogue.specs.Systems.{running, Tied}
use Rattle.pair_table.specs.declared.Compared.{Compared}
use Rattle.pair_table.specs.declared.CompareFault.{CompareFault}
use Rattle.pair_table.specs.declared.CompareFault.TheVariants.{UnknownOld, UnknownNew, TableTooSmall}
use Rattle.pair_table.specs.Pairs.{pair_count}
use Rattle.pair_table.specs.Rounds.{first_rank}
use Rattle.pair_table.specs.Tables.{answer, suffices, verdict, room}
use Rattle.pair_table.proofs.Compose.{tied_through, itself, ties_itself}
use Rattle.pair_table.proofs.Verdict.{judges}
use Rattle.line_rules.specs.declared.SwapFault.{SwapFault}
use Rattle.line_rules.specs.declared.SwapFault.TheVariants.{UnknownSlot}
use Rattle.line_rules.specs.Line.{Slot, Line, slot, inside, Hidden, Drawn}
use Rattle.line_rules.specs.Swapping.{Swap, by_rank, judged, swap_answer, Refused, put, left_by, swapped, after, Promised, NoHistorySlows, NoSwapSlows}
use Rattle.line_rules.proofs.Congruence.{alike_through, Refitted, line_tied}
use Rattle.line_rules.proofs.Put.{slot_here, slot_there, put_alike}
use Rattle.line_rules.proofs.Live.{never_stands}

-- What every history keeps.
record Kept (ms : Catalogue) (drawn now : Line) : Type 0 where
  refit : Refitted ms now drawn
  known : (i : ℕ) → i < length now.slots → (slot now i).holds < length ms

at_first : (ms : Catalogue) → Lawful ms → (l : Line) → Drawn ms l → Kept ms l l
at_first ms lawful l drawn = record {
  refit = record {
    alike = record { wide = refl; wirings = λ i. refl; hides = refl };
    tied = λ i h. (itself (inside ms l i), ties_itself (inside ms l i) (lawful.sound (slot l i).holds (drawn.known i h)));
  };
  known = drawn.known;
}

module _ (ms : Catalogue) (lawful : Lawful ms) (drawn now : Line) (kept : Kept ms drawn now) where
  -- a tied module put into a slot: there the ties compose, and the other slots stay as they were
  module _ (k m : ℕ) (within : k < length now.slots) (new : m < length ms) (tied : Tied (running (module_in ms m)) (running (inside ms now k))) where
    tied_at : (i : ℕ) → i < length drawn.slots → Tied (running (inside ms (put now k m) i)) (running (inside ms drawn i))
    tied_at i h = go (ℕ_discrete i k)
      where
        here : k < length drawn.slots → Tied (running (inside ms (put now k m) k)) (running (inside ms drawn k))
        here l = subst (λ (s : Slot). Tied (running (module_in ms s.holds)) (running (inside ms drawn k))) (sym (slot_here now k m within)) (tied_through (running (module_in ms m)) (inside ms now k) (running (inside ms drawn k)) tied (kept.refit.tied k l))

        go : Dec (i ≡ k) → Tied (running (inside ms (put now k m) i)) (running (inside ms drawn i))
        go (yes e) = subst (λ j. Tied (running (inside ms (put now k m) j)) (running (inside ms drawn j))) (sym e) (here (subst (λ j. j < length drawn.slots) e h))
        go (no d) = subst (λ (s : Slot). Tied (running (module_in ms s.holds)) (running (inside ms drawn i))) (sym (slot_there now k m within i d)) (kept.refit.tied i h)

    known_at : (i : ℕ) → i < length (put now k m).slots → (slot (put now k m) i).holds < length ms
    known_at i h = go (ℕ_discrete i k)
      where
        go : Dec (i ≡ k) → (slot (put now k m) i).holds < length ms
        go (yes e) = subst (λ j. (slot (put now k m) j).holds < length ms) (sym e) (subst (λ (s : Slot). s.holds < length ms) (sym (slot_here now k m within)) new)
        go (no d) = subst (λ (s : Slot). s.holds < length ms) (sym (slot_there now k m within i d)) (kept.known i (omega (arith, (put_alike now k m within).wide)))

    put_kept : Kept ms drawn (put now k m)
    put_kept = record { refit = record { alike = alike_through (put now k m) now drawn (put_alike now k m within) kept.refit.alike; tied = tied_at }; known = known_at }

  -- one swap
  module _ (w : Swap) where
    abbrev new : Module
    new = module_in ms w.new

    abbrev old : Module
    old = inside ms now w.slot

    module _ (h : w.slot < length now.slots) (k : w.new < length ms) (enough : suffices new old w.rows ≡ true) where
      exactly : (first_rank new old ≡ 0) ↔ Tied (running new) (running old)
      exactly =
          let few = leb-true (pair_count new old) (room w.rows) enough in
          (judges new old (lawful.sound w.new k) (lawful.sound (slot now w.slot).holds (kept.known w.slot h)) (omega arith)).tied

      left_kept : (rank : ℕ) → first_rank new old ≡ rank → Kept ms drawn (left_by now w (by_rank (pair_count new old) rank))
      left_kept zero e = put_kept w.slot w.new h k (exactly.0 e)
      left_kept (suc r) e = kept

      refused_exactly : (rank : ℕ) → first_rank new old ≡ rank → Refused (by_rank (pair_count new old) rank) ↔ (¬ Tied (running new) (running old))
      refused_exactly zero e = (λ r. absurd r, λ n. n (exactly.0 e))
      refused_exactly (suc r) e = (λ _ t. (let z = exactly.1 t in omega arith), λ _. tt)

    -- the answer, test by test
    abbrev of_slot : Bool → Result ℕ SwapFault
    of_slot b = elim b [ true ↦ judged (answer ms w.new (slot now w.slot).holds w.rows) | false ↦ Err UnknownSlot ]

    abbrev of_old : Bool → Result Compared CompareFault
    of_old b = elim b [ true ↦ elim (ltb w.new (length ms)) [ true ↦ elim (suffices new old w.rows) [ true ↦ Ok (verdict new old) | false ↦ Err TableTooSmall ] | false ↦ Err UnknownNew ] | false ↦ Err UnknownOld ]

    abbrev of_new : Bool → Result Compared CompareFault
    of_new b = elim b [ true ↦ elim (suffices new old w.rows) [ true ↦ Ok (verdict new old) | false ↦ Err TableTooSmall ] | false ↦ Err UnknownNew ]

    abbrev of_table : Bool → Result Compared CompareFault
    of_table b = elim b [ true ↦ Ok (verdict new old) | false ↦ Err TableTooSmall ]

    swap_kept : Kept ms drawn (swapped ms now w)
    unfolding swap_answer answer
    swap_kept = by_slot (ltb w.slot (length now.slots)) refl
      where
        by_table : w.slot < length now.slots → w.new < length ms → (b : Bool) → suffices new old w.rows ≡ b → Kept ms drawn (left_by now w (judged (of_table b)))
        by_table h k true e = left_kept h k e (first_rank new old) refl
        by_table h k false e = kept

        by_new : w.slot < length now.slots → (b : Bool) → ltb w.new (length ms) ≡ b → Kept ms drawn (left_by now w (judged (of_new b)))
        by_new h true e = by_table h (ltb-true w.new (length ms) e) (suffices new old w.rows) refl
        by_new h false e = kept

        by_old : w.slot < length now.slots → (b : Bool) → Kept ms drawn (left_by now w (judged (of_old b)))
        by_old h true = by_new h (ltb w.new (length ms)) refl
        by_old h false = kept

        by_slot : (b : Bool) → ltb w.slot (length now.slots) ≡ b → Kept ms drawn (left_by now w (of_slot b))
        by_slot true e = by_old (ltb-true w.slot (length now.slots) e) (ltb (slot now w.slot).holds (length ms))
        by_slot false e = kept

    -- a swap of a known slot and a known module, with a table that suffices
    module _ (h : w.slot < length now.slots) (k : w.new < length ms) (enough : suffices new old w.rows ≡ true) where
      answered : swap_answer ms now w ≡ by_rank (pair_count new old) (first_rank new old)
      unfolding swap_answer answer
      answered =
          ap of_slot (lt-ltb w.slot (length now.slots) h)
          ∙ ap (λ b. judged (of_old b)) (lt-ltb (slot now w.slot).holds (length ms) (kept.known w.slot h))
          ∙ ap (λ b. judged (of_new b)) (lt-ltb w.new (length ms) k)
          ∙ ap (λ b. judged (of_table b)) enough

      exact : Refused (swap_answer ms now w) ↔ (¬ Tied (running new) (running old))
      exact = subst (λ a. Refused a ↔ (¬ Tied (running new) (running old))) (sym answered) (refused_exactly h k enough (first_rank new old) refl)

  -- the internal event is no port, so it is never hidden
  unhidden : ((a : ℤ) → drawn.hidden ∋ a → (p : ℕ) × (1 ≤ p) × (p ≤ last_port) × (a ≡ pos p)) → ¬ Hidden now internal
  unhidden ports h =
      let r = ports internal (subst (λ s. s ∋ internal) kept.refit.alike.hides h) in
      let z : r.0 ≡ 0 = ap nat_abs (sym r.3) in
      let o = r.1 in
      omega arith

  promised : Drawn ms drawn → Promised ms drawn now
  promised d = record {
    no_slower = line_tied ms now drawn kept.refit;
    exact = λ w h k e. exact w h k (true_T (suffices (module_in ms w.new) (inside ms now w.slot) w.rows) e);
    never_stands = never_stands ms lawful now kept.known (unhidden d.ports);
  }

after_kept : (ms : Catalogue) → Lawful ms → (drawn now : Line) → Kept ms drawn now → (history : List Swap) → Kept ms drawn (after ms now history)
unfolding after
after_kept ms lawful drawn now kept [] = kept
after_kept ms lawful drawn now kept (w ∷ ws) = after_kept ms lawful drawn (swapped ms now w) (swap_kept ms lawful drawn now kept w) ws

-- after any history the promise is kept ..
pub no_history_slows : (ms : Catalogue) → Lawful ms → (drawn : Line) → Drawn ms drawn → NoHistorySlows ms drawn
no_history_slows ms lawful drawn d history = promised ms lawful drawn (after ms drawn history) (after_kept ms lawful drawn drawn (at_first ms lawful drawn d) history) d

-- .. and after one swap more
pub no_swap_slows : (ms : Catalogue) → Lawful ms → (before : Line) (w : Swap) → NoSwapSlows ms before (swapped ms before w)
no_swap_slows ms lawful before w drawn d history e =
    let kept : Kept ms drawn before = subst (Kept ms drawn) e (after_kept ms lawful drawn drawn (at_first ms lawful drawn d) history) in
    promised ms lawful drawn (swapped ms before w) (swap_kept ms lawful drawn before kept w) d
