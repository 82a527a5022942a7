-- Swaps tried one after another, and what is told of them. Assumes nothing.
use Rattle.std.proofs.Common.{◌≡◌, ℕ, suc, ◌+◌, ◌-◌, ◌<◌, ◌≤◌, List, [], ◌∷◌, ◌++◌, sym, refl, ap, ◌∙◌, arith}
use Rattle.std.proofs.lemmas.List.{append_assoc, append-nil}
use Rattle.action.specs.Lists.{each}
use Rattle.catalogue.specs.Catalogue.{Catalogue}
use Rattle.line_rules.specs.Line.{Line}
use Rattle.line_rules.specs.Swapping.{Swap, swap_answer, swapped, after}
use Rattle.swaps_text.specs.Text.{counting, slot_trials, trial_line, told}
use Rattle.swaps_text.specs.Trying.{Tried}

-- what is left to count from k on
pub counting_more : (k n : ℕ) → k < n → counting k (n - k) ≡ k ∷ counting (k + 1) (n - (k + 1))
counting_more k n l =
    let a : n - k ≡ suc (n - (k + 1)) = omega arith in
    let b : suc k ≡ k + 1 = omega arith in
    ap (counting k) a ∙ ap (λ j. k ∷ counting j (n - (k + 1))) b

pub counting_all : (k n : ℕ) → n ≤ k → counting k (n - k) ≡ []
counting_all k n l = let a : n - k ≡ 0 = omega arith in ap (counting k) a

pub counting_none : (n : ℕ) → counting 0 (n - 0) ≡ counting 0 n
counting_none n = let a : n - 0 ≡ n = omega arith in ap (counting 0) a

module _ (ms : Catalogue) where
  -- one swap after those before it
  pub tried_more : (first before behind : Line) (text out more : List ℕ) (all ws rest : List Swap) (w : Swap) → ws ≡ w ∷ rest → behind ≡ swapped ms before w → more ≡ out ++ trial_line w.slot w.new (swap_answer ms before w) → (after ms before ws ≡ after ms first all) × (out ++ told ms before ws ≡ text ++ told ms first all) → (after ms behind rest ≡ after ms first all) × (more ++ told ms behind rest ≡ text ++ told ms first all)
  unfolding after
  tried_more first before behind text out more all ws rest w e l p h = (
    ap (λ (x : Line). after ms x rest) l ∙ ap (after ms before) (sym e) ∙ h.0,
    ap (λ (x : Line). more ++ told ms x rest) l
        ∙ ap (λ (x : List ℕ). x ++ told ms (swapped ms before w) rest) p
        ∙ append_assoc out (trial_line w.slot w.new (swap_answer ms before w)) (told ms (swapped ms before w) rest)
        ∙ ap (λ (x : List Swap). out ++ told ms before x) (sym e) ∙ h.1,
  )

  -- no swap is left
  pub tried_all : (first behind : Line) (text out : List ℕ) (all ws : List Swap) → ws ≡ [] → (after ms behind ws ≡ after ms first all) × (out ++ told ms behind ws ≡ text ++ told ms first all) → Tried ms first behind text out all
  unfolding after
  tried_all first behind text out all ws e h = record {
    line = ap (after ms behind) (sym e) ∙ h.0;
    lines = sym (append-nil out) ∙ ap (λ (x : List Swap). out ++ told ms behind x) (sym e) ∙ h.1;
  }

  -- some swaps, and others behind them
  pub told_append : (l : Line) (xs ys : List Swap) → told ms l (xs ++ ys) ≡ told ms l xs ++ told ms (after ms l xs) ys
  unfolding after
  told_append l [] ys = refl
  told_append l (w ∷ xs) ys =
      ap (λ (z : List ℕ). trial_line w.slot w.new (swap_answer ms l w) ++ z) (told_append (swapped ms l w) xs ys)
      ∙ sym (append_assoc (trial_line w.slot w.new (swap_answer ms l w)) (told ms (swapped ms l w) xs) (told ms (after ms (swapped ms l w) xs) ys))

  -- one slot after those before it
  pub slots_more : (before behind : Line) (out more z : List ℕ) (rows count k : ℕ) (slots rest : List ℕ) → slots ≡ k ∷ rest → Tried ms before behind out more (slot_trials rows count k) → out ++ told ms before (each (slot_trials rows count) slots) ≡ z → more ++ told ms behind (each (slot_trials rows count) rest) ≡ z
  slots_more before behind out more z rows count k slots rest e t h =
      ap (λ (x : Line). more ++ told ms x (each (slot_trials rows count) rest)) t.line
      ∙ ap (λ (x : List ℕ). x ++ told ms (after ms before (slot_trials rows count k)) (each (slot_trials rows count) rest)) t.lines
      ∙ append_assoc out (told ms before (slot_trials rows count k)) (told ms (after ms before (slot_trials rows count k)) (each (slot_trials rows count) rest))
      ∙ ap (λ (x : List ℕ). out ++ x) (sym (told_append before (slot_trials rows count k) (each (slot_trials rows count) rest)))
      ∙ ap (λ (x : List ℕ). out ++ told ms before (each (slot_trials rows count) x)) (sym e) ∙ h

  pub slots_all : (behind : Line) (out z : List ℕ) (rows count : ℕ) (slots : List ℕ) → slots ≡ [] → out ++ told ms behind (each (slot_trials rows count) slots) ≡ z → out ≡ z
  slots_all behind out z rows count slots e h = sym (append-nil out) ∙ ap (λ (x : List ℕ). out ++ told ms behind (each (slot_trials rows count) x)) (sym e) ∙ h
