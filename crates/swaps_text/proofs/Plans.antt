-- The plan of the first modules, and what is printed of the line that it gives. Assumes nothing.
use Rattle.std.proofs.Common.{Bor, ℤ, ◌≡◌, ℕ, zero, suc, ◌+◌, List, [], ◌∷◌, map, length, IfOk, Some, None, string_bytes, Result, String, sym, refl, ap, ◌∙◌, arith}
use Rattle.std.specs.declared.alloc.AllocError.{AllocError}
use Rattle.std.specs.declared.alloc.Global.{Global}
use Rattle.std.proofs.lemmas.Result.{IfOk-weaker}
use Rattle.std.specs.List.{range_with_len}
use Rattle.renaming.specs.Renaming.{each_to_itself}
use Rattle.catalogue.specs.Catalogue.{Catalogue}
use Rattle.line_rules.specs.declared.DrawFault.{DrawFault}
use Rattle.line_rules.specs.Line.{Slot, Line}
use Rattle.line_rules.specs.Drawing.{draw_number, draw_fault, planned}
use Rattle.line.specs.Meaning.{wired_so, plan_of, plans}
use Rattle.swaps_text.specs.Text.{counting, plain, first_slots, trials, trial_rows, told, draw_line, drawn_lines, swap_lines}

-- a plan of the slots that have these numbers
pub plans_first : (k n : ℕ) (e : Bor (List ℤ)) → e.now ≡ each_to_itself → plans (map (λ m. record { holds = m; entries = e }) (range_with_len k n)) ≡ map plain (counting k n)
plans_first k zero e h = refl
plans_first k (suc n) e h =
    let one : plan_of (record { holds = k; entries = e }) ≡ plain k = ap (wired_so k) h in
    let next : k + 1 ≡ suc k = omega arith in
    ap (λ (x : Slot). x ∷ plans (map (λ m. record { holds = m; entries = e }) (range_with_len (k + 1) n))) one
    ∙ ap (λ (w : List Slot). plain k ∷ w) (plans_first (k + 1) n e h ∙ ap (λ j. map plain (counting j n)) next)

-- what is printed: the swaps of a line that is drawn, or why it is not
pub drawn_printed : (r : Result (String Global) AllocError) (ms : Catalogue) (l : Line) → draw_fault ms (first_slots ms) [] ≡ None → l ≡ planned (first_slots ms) [] → IfOk r (λ s. string_bytes s ≡ told ms l (trials trial_rows (length ms) (length l.slots))) → IfOk r (λ s. string_bytes s ≡ swap_lines ms)
unfolding swap_lines
drawn_printed r ms l f e h =
    IfOk-weaker r (λ s. string_bytes s ≡ told ms l (trials trial_rows (length ms) (length l.slots))) (λ s. string_bytes s ≡ drawn_lines ms (draw_fault ms (first_slots ms) []))
    (λ s w. w ∙ ap (λ (x : Line). told ms x (trials trial_rows (length ms) (length x.slots))) e ∙ ap (drawn_lines ms) (sym f)) h

pub undrawn_printed : (r : Result (String Global) AllocError) (ms : Catalogue) (e : DrawFault) → draw_fault ms (first_slots ms) [] ≡ Some e → IfOk r (λ s. string_bytes s ≡ draw_line (draw_number e)) → IfOk r (λ s. string_bytes s ≡ swap_lines ms)
unfolding swap_lines
undrawn_printed r ms e f h =
    IfOk-weaker r (λ s. string_bytes s ≡ draw_line (draw_number e)) (λ s. string_bytes s ≡ drawn_lines ms (draw_fault ms (first_slots ms) []))
    (λ s w. w ∙ ap (drawn_lines ms) (sym f)) h
