-- Which lists of entries are taken. Assumes nothing.
use Rattle.std.proofs.Common.{◌≡◌, ℕ, zero, suc, ◌+◌, ◌-◌, ◌<◌, ◌≤◌, Bool, true, false, not, ◌&&◌, ◌||◌, T, ◌≢◌, ◌⊎◌, List, [], ◌∷◌, length, take, drop, get_or, eqb, ℤ, nat_abs, Some, None, Option, sym, refl, ap, ◌∙◌, inl, inr, arith, le→leb, cond}
use Rattle.std.proofs.lemmas.Bool.{eq-eqb, ne_eqb, cases_eq, cases_order, not-false, not_from_true, both_ways}
use Rattle.std.specs.List.{list_any, position, position_from}
use Rattle.std.specs.Option.{MatchOption}
use Rattle.std.proofs.Math.Seq.{take-suc}
use Rattle.std.proofs.lemmas.List.Folds.{list_any-append}
use Rattle.std.proofs.lemmas.Iterator.Adapters.{position_from-zero}
use Rattle.action.specs.Lists.{all, below}
use Rattle.action.specs.Action.{internal, last_port, is_action, same}
use Rattle.action.proofs.Basics.{and_i, or_r, le_split, T_true, true_T, T_either}
use Rattle.action.proofs.Sets.{same_eq}
use Rattle.renaming.specs.declared.fault.RenamingFault.TheVariants.{Length, Entry, Shared}
use Rattle.renaming.specs.Renaming.{is_signal, full, least, wrong, one_port, shared, first_wrong, first_shared}
use Rattle.renaming.specs.Faults.{fault, entry_fault, Wires, LawOf}
use Rattle.renaming.proofs.Laws.{signal_is}

-- ── the least number that passes ──

module _ (f : ℕ → Bool) where
  -- i is the first from k on that passes
  pub first_passes : (n k i : ℕ) → k ≤ i → i < k + n → f i ≡ true → ((j : ℕ) → k ≤ j → j < i → f j ≡ false) → least f n k ≡ Some i
  first_passes zero k i l u e h = absurd (omega arith)
  first_passes (suc n) k i l u e h = go (f k) refl (le_split k i l) (first_passes n (suc k) i)
    where
      go : (b : Bool) → f k ≡ b → (k ≡ i) ⊎ (suc k ≤ i) → (suc k ≤ i → i < suc k + n → f i ≡ true → ((j : ℕ) → suc k ≤ j → j < i → f j ≡ false) → least f n (suc k) ≡ Some i)
          → ◌≡◌ {A = Option ℕ} (elim b [ true ↦ Some k | false ↦ least f n (suc k) ]) (Some i)
      go true q (inl p) rec = ap Some p
      go true q (inr m) rec = absurd (both_ways (f k) (h k (omega arith) m) q)
      go false q (inl p) rec = absurd (both_ways (f k) q (ap f p ∙ e))
      go false q (inr m) rec = rec m (omega arith) e (λ j a b. h j (omega arith) b)

  -- none passes
  none_passes : (n k : ℕ) → least f n k ≡ None → (j : ℕ) → k ≤ j → j < k + n → f j ≡ false
  none_passes zero k e j l u = absurd (omega arith)
  none_passes (suc n) k e j l u = go (f k) refl e (none_passes n (suc k))
    where
      go : (b : Bool) → f k ≡ b → ◌≡◌ {A = Option ℕ} (elim b [ true ↦ Some k | false ↦ least f n (suc k) ]) None → (least f n (suc k) ≡ None → (i : ℕ) → suc k ≤ i → i < suc k + n → f i ≡ false) → f j ≡ false
      go true q z rec = let o : ◌≡◌ {A = ℕ} 0 1 = cc in absurd (omega arith)
      go false q z rec = elim (le_split k j l) [ inl p ↦ ap f (sym p) ∙ q | inr m ↦ rec z j m (omega arith) ]

  pub passes_none : (n k : ℕ) → ((j : ℕ) → k ≤ j → j < k + n → f j ≡ false) → least f n k ≡ None
  passes_none zero k h = refl
  passes_none (suc n) k h = go (f k) (h k (omega arith) (omega arith)) (passes_none n (suc k) (λ j l u. h j (omega arith) (omega arith)))
    where
      go : (b : Bool) → b ≡ false → least f n (suc k) ≡ None → ◌≡◌ {A = Option ℕ} (elim b [ true ↦ Some k | false ↦ least f n (suc k) ]) None
      go true t e = let z : ◌≡◌ {A = ℕ} 0 1 = cc in absurd (omega arith)
      go false t e = e

  -- some number below n passes
  pub some_below : (n j : ℕ) → j < n → f j ≡ true → below n f ≡ true
  some_below zero j l e = absurd (omega arith)
  some_below (suc n) j l e = go (cases_eq j n) (some_below n j)
    where
      go : (j ≡ n) ⊎ (j ≡ n → ⊥) → (j < n → f j ≡ true → below n f ≡ true) → (f n || below n f) ≡ true
      go (inl p) rec = ap (λ b. b || below n f) (ap f (sym p) ∙ e)
      go (inr p) rec = true_T (f n || below n f) (or_r (f n) (below n f) (T_true (below n f) (rec (omega arith) e)))

  below_none : (n : ℕ) → ((j : ℕ) → j < n → f j ≡ false) → below n f ≡ false
  below_none zero h = refl
  below_none (suc n) h = ap (λ b. b || below n f) (h n (omega arith)) ∙ below_none n (λ j l. h j (omega arith))

-- ── the same, as the code looks for it ──

position_least : (g : ℕ → Bool) (p : ℤ → Bool) (xs : List ℤ) (k : ℕ) → ((i : ℕ) → i < length xs → p (get_or xs i internal) ≡ g (k + i)) → position_from p k xs ≡ least g (length xs) k
position_least g p [] k h = refl
position_least g p (x ∷ xs) k h =
    let here : k + 0 ≡ k = omega arith in
    let next : k + 1 ≡ suc k = omega arith in
    ap (λ t. cond t (Some k) (position_from p (k + 1) xs)) (h 0 (omega arith) ∙ ap g here)
    ∙ go (g k) (position_least g p xs (k + 1) (λ i l. (let q : k + suc i ≡ k + 1 + i = omega arith in h (suc i) (omega arith) ∙ ap g q)) ∙ ap (least g (length xs)) next)
  where
    go : (b : Bool) → position_from p (k + 1) xs ≡ least g (length xs) (suc k) → cond b (Some k) (position_from p (k + 1) xs) ≡ elim b [ true ↦ Some k | false ↦ least g (length xs) (suc k) ]
    go true r = refl
    go false r = r

pub first_wrong_is : (f : List ℤ) → position (λ a. not (is_signal a)) f ≡ first_wrong f
unfolding first_wrong
first_wrong_is f = position_from-zero (λ a. not (is_signal a)) f ∙ position_least (wrong f) (λ a. not (is_signal a)) f 0 (λ i l. (let q : i ≡ 0 + i = omega arith in ap (wrong f) q))

any_below : (p : ℤ → Bool) (f : List ℤ) (n : ℕ) → n ≤ length f → list_any p (take n f) ≡ below n (λ j. p (get_or f j internal))
any_below p f zero l = refl
any_below p f (suc n) l =
    ap (list_any p) (take-suc f n internal (omega arith)) ∙ list_any-append p (take n f) (get_or f n internal ∷ []) ∙ swap (list_any p (take n f)) (p (get_or f n internal))
    ∙ ap (λ t. p (get_or f n internal) || t) (any_below p f n (omega arith))
  where
    swap : (a b : Bool) → (a || (b || false)) ≡ (b || a)
    swap true true = refl
    swap true false = refl
    swap false true = refl
    swap false false = refl

-- the entry at i has the port of one in the slice before it
abbrev pub before : List ℤ → ℕ → Bool
before f i = list_any (λ a. eqb (nat_abs (get_or f i internal)) (nat_abs a)) (take (i - 0) (drop 0 f))

shared_is : (f : List ℤ) (i : ℕ) → i ≤ length f → before f i ≡ shared f i
shared_is f i l =
    let q : i - 0 ≡ i = omega arith in
    let p = λ (a : ℤ). eqb (nat_abs (get_or f i internal)) (nat_abs a) in
    ap (λ n. list_any p (take n f)) q ∙ any_below p f i l

pub first_shared_is : (f : List ℤ) (o : Option ℕ) → MatchOption o ((k : ℕ) → 0 ≤ k → k < length f → false ≡ before f k) (λ i. (0 ≤ i) × (i < length f) × (true ≡ before f i) × ((k : ℕ) → 0 ≤ k → k < i → false ≡ before f k)) → o ≡ first_shared f
unfolding first_shared
first_shared_is f None h = sym (passes_none (shared f) (length f) 0 (λ j l u. sym (h j l (omega arith) ∙ shared_is f j (omega arith))))
first_shared_is f (Some i) h =
    sym (first_passes (shared f) (length f) 0 i h.0 (omega (arith, h.1)) (sym (h.2 ∙ shared_is f i (omega (arith, h.1)))) (λ j l u. sym (h.3 j l u ∙ shared_is f j (omega (arith, h.1)))))

-- ── entries ──

-- no entry is wrong
pub right_signal : (f : List ℤ) → first_wrong f ≡ None → (n : ℕ) → n < length f → is_signal (get_or f n internal) ≡ true
unfolding first_wrong
right_signal f e n l = not-false (is_signal (get_or f n internal)) (none_passes (wrong f) (length f) 0 e n (omega arith) (omega arith))

all_of : {A : Type 0} (f : A → Bool) (d : A) (xs : List A) → ((n : ℕ) → n < length xs → f (get_or xs n d) ≡ true) → all f xs ≡ true
all_of f d [] h = refl
all_of f d (x ∷ xs) h = ap (λ b. b && all f xs) (h 0 (omega arith)) ∙ all_of f d xs (λ n l. h (suc n) (omega arith))

pub right_full : (f : List ℤ) → length f ≡ last_port → first_wrong f ≡ None → full f ≡ true
right_full f n e = ap (λ b. b && all is_signal f) (eq-eqb (length f) last_port n) ∙ all_of is_signal internal f (right_signal f e)

-- ── faults, in the order in which they are tried ──

pub fault_length : (f : List ℤ) → (length f ≡ last_port → ⊥) → fault f ≡ Some (Length (length f))
unfolding fault
fault_length f h = ap (λ (b : Bool). elim b [ true ↦ entry_fault (first_wrong f) (first_shared f) | false ↦ Some (Length (length f)) ]) (ne_eqb (length f) last_port h)

pub fault_rest : (f : List ℤ) → length f ≡ last_port → fault f ≡ entry_fault (first_wrong f) (first_shared f)
unfolding fault
fault_rest f h = ap (λ (b : Bool). elim b [ true ↦ entry_fault (first_wrong f) (first_shared f) | false ↦ Some (Length (length f)) ]) (eq-eqb (length f) last_port h)

pub fault_entry : (f : List ℤ) (i : ℕ) → length f ≡ last_port → Some i ≡ first_wrong f → fault f ≡ Some (Entry i)
fault_entry f i h e = fault_rest f h ∙ ap (λ o. entry_fault o (first_shared f)) (sym e)

pub fault_shared : (f : List ℤ) (i : ℕ) → length f ≡ last_port → None ≡ first_wrong f → Some i ≡ first_shared f → fault f ≡ Some (Shared i)
fault_shared f i h e s = fault_rest f h ∙ ap (λ o. entry_fault o (first_shared f)) (sym e) ∙ ap (λ o. entry_fault None o) (sym s)

pub fault_none : (f : List ℤ) → length f ≡ last_port → None ≡ first_wrong f → None ≡ first_shared f → fault f ≡ None
fault_none f h e s = fault_rest f h ∙ ap (λ o. entry_fault o (first_shared f)) (sym e) ∙ ap (λ o. entry_fault None o) (sym s)

-- ── just the lists that wire have no fault ──

parts : (o p : Option ℕ) → entry_fault o p ≡ None → (o ≡ None) × (p ≡ None)
parts (Some i) p e = let z : ◌≡◌ {A = ℕ} 0 1 = cc in absurd (omega arith)
parts None (Some i) e = let z : ◌≡◌ {A = ℕ} 0 1 = cc in absurd (omega arith)
parts None None e = (refl, refl)

apart_at : (f : List ℤ) → first_shared f ≡ None → (m n : ℕ) → m < n → n < length f → nat_abs (get_or f m internal) ≡ nat_abs (get_or f n internal) → ⊥
unfolding first_shared
apart_at f e m n l u p = both_ways (shared f n) (none_passes (shared f) (length f) 0 e n (omega arith) (omega arith)) (some_below (one_port f n) n m l (eq-eqb (nat_abs (get_or f n internal)) (nat_abs (get_or f m internal)) (sym p)))

taken_wires : (f : List ℤ) → fault f ≡ None → Wires f
taken_wires f e = go (cases_eq (length f) last_port)
  where
    wires : length f ≡ last_port → (first_wrong f ≡ None) × (first_shared f ≡ None) → Wires f
    wires n w = record {
      each = n;
      signals = λ k l. signal_is (get_or f k internal) (T_true (is_signal (get_or f k internal)) (right_signal f w.0 k (omega arith)));
      apart = λ j k l u p. elim (cases_order j k) [ inl q ↦ q | inr s ↦ elim s [ inl b ↦ absurd (apart_at f w.1 j k b (omega arith) p) | inr b ↦ absurd (apart_at f w.1 k j b (omega arith) (sym p)) ] ];
    }

    go : (length f ≡ last_port) ⊎ (length f ≡ last_port → ⊥) → Wires f
    go (inl n) = wires n (parts (first_wrong f) (first_shared f) (sym (fault_rest f n) ∙ e))
    go (inr n) = let q : Some (Length (length f)) ≡ None = sym (fault_length f n) ∙ e in let z : ◌≡◌ {A = ℕ} 0 1 = cc in absurd (omega arith)

signal_of : (a : ℤ) → a ≢ internal → nat_abs a ≤ last_port → is_signal a ≡ true
signal_of a s n = true_T (is_signal a) (and_i (not (same a internal)) (is_action a) (go (T_either (same a internal))) (le→leb (nat_abs a) last_port n))
  where
    go : T (same a internal) ⊎ T (not (same a internal)) → T (not (same a internal))
    go (inl t) = absurd (s (same_eq a internal t))
    go (inr t) = t

wires_taken : (f : List ℤ) → Wires f → fault f ≡ None
unfolding first_wrong first_shared
wires_taken f w = fault_none f w.each (sym (passes_none (wrong f) (length f) 0 right)) (sym (passes_none (shared f) (length f) 0 alone))
  where
    right : (j : ℕ) → 0 ≤ j → j < 0 + length f → wrong f j ≡ false
    right j l u = let s = w.signals j (omega (arith, w.each)) in not_from_true (is_signal (get_or f j internal)) (signal_of (get_or f j internal) s.0 s.1)

    alone : (j : ℕ) → 0 ≤ j → j < 0 + length f → shared f j ≡ false
    alone j l u = below_none (one_port f j) j (λ i b. ne_eqb (nat_abs (get_or f j internal)) (nat_abs (get_or f i internal)) (λ p. (let q : i ≡ j = w.apart i j (omega (arith, w.each)) (omega (arith, w.each)) (sym p) in omega arith)))

pub law_of : (f : List ℤ) → LawOf f
law_of f = record { taken = (taken_wires f, wires_taken f) }
