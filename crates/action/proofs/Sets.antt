-- Laws of sets of actions. The other crates use these and never look at a word. Assumes nothing.
use Rattle.std.proofs.Common.{◌≡◌, ℕ, zero, suc, ◌+◌, ◌-◌, ◌^◌, ◌<◌, ◌≤◌, Bool, true, false, ◌&&◌, ◌||◌, T, eqb, leb, ◌⊎◌, ℤ, pos, negsuc, nat_abs, sym, refl, ap, ◌∙◌, subst, inl, inr, arith, le→leb, eqb→eq, leb→le, w8, SFits, to_z, of_z}
use native.Mathlib.Bridge.{le_prop}
use lib.Dec.{eqb_refl}
use lib.Bits.{bit_or}
use Rattle.std.proofs.lemmas.Int.{to_z-of_z}
use Rattle.std.proofs.lemmas.Bool.{leb-true, leb-false, le-leb, lt-leb, cases_lt, cases_Bool, both_ways}
use Rattle.action.specs.declared.set.ActionSet.{ActionSet}
use Rattle.action.specs.Action.{is_action, same, last_port}
use Rattle.action.specs.Sets.{place, signed, has, ◌∋◌, set_of, no_actions}
use Rattle.action.proofs.Basics.{and_l, and_r, and_i, T_true, true_T}
use Rattle.action.proofs.Bits.{bit, digit_is, none_bit, packed_bit, bits_tell, or_test, one_bit_same, one_bit_other}

-- equal actions
pub same_eq : (a b : ℤ) → T (same a b) → a ≡ b
same_eq (pos m) (pos n) h = ap pos (eqb→eq m n h)
same_eq (pos m) (negsuc n) h = absurd h
same_eq (negsuc m) (pos n) h = absurd h
same_eq (negsuc m) (negsuc n) h = ap negsuc (eqb→eq m n h)

pub same_refl : (a : ℤ) → T (same a a)
same_refl (pos m) = eqb_refl m
same_refl (negsuc m) = eqb_refl m

pub eq_same : (a b : ℤ) → a ≡ b → T (same a b)
eq_same a b e = subst (λ c. T (same a c)) e (same_refl a)

-- actions and bits
pub place_below : (a : ℤ) → nat_abs a ≤ last_port → place a < 63
place_below (pos n) h = omega arith
place_below (negsuc n) h = omega arith

pub signed_place : (a : ℤ) → nat_abs a ≤ last_port → signed (place a) ≡ a
signed_place (pos n) h = go (leb 31 (31 + n)) refl
  where
    go : (b : Bool) → leb 31 (31 + n) ≡ b → ◌≡◌ {A = ℤ} (elim b [ true ↦ pos (31 + n - 31) | false ↦ negsuc (30 - (31 + n)) ]) (pos n)
    go true e = ap pos (omega arith)
    go false e = absurd (omega (arith, leb-false 31 (31 + n) e))
signed_place (negsuc n) h = go (leb 31 (30 - n)) refl
  where
    go : (b : Bool) → leb 31 (30 - n) ≡ b → ◌≡◌ {A = ℤ} (elim b [ true ↦ pos (30 - n - 31) | false ↦ negsuc (30 - (30 - n)) ]) (negsuc n)
    go true e = absurd (omega (arith, leb-true 31 (30 - n) e))
    go false e = ap negsuc (omega arith)

pub place_signed : (k : ℕ) → k < 63 → place (signed k) ≡ k
place_signed k h = go (leb 31 k) refl
  where
    go : (b : Bool) → leb 31 k ≡ b → place (elim b [ true ↦ pos (k - 31) | false ↦ negsuc (30 - k) ]) ≡ k
    go true e = omega (arith, leb-true 31 k e)
    go false e = omega (arith, leb-false 31 k e)

pub signed_near : (k : ℕ) → k < 63 → nat_abs (signed k) ≤ last_port
signed_near k h = go (leb 31 k) refl
  where
    go : (b : Bool) → leb 31 k ≡ b → nat_abs (elim b [ true ↦ pos (k - 31) | false ↦ negsuc (30 - k) ]) ≤ last_port
    go true e = omega (arith, leb-true 31 k e)
    go false e = omega (arith, leb-false 31 k e)

pub place_one : (a b : ℤ) → nat_abs a ≤ last_port → nat_abs b ≤ last_port → place a ≡ place b → a ≡ b
place_one a b h k e = sym (signed_place a h) ∙ ap signed e ∙ signed_place b k

-- what a set holds
pub has_near : (s : ActionSet) (a : ℤ) → s ∋ a → nat_abs a ≤ last_port
unfolding has
has_near s a h = leb→le (nat_abs a) last_port (and_l (is_action a) (eqb (bit s.bits (place a)) 1) h)

pub has_bit : (s : ActionSet) (a : ℤ) → nat_abs a ≤ last_port → has s a ≡ eqb (bit s.bits (place a)) 1
unfolding has
has_bit s a h = ap (λ b. b && eqb (bit s.bits (place a)) 1) (le-leb (nat_abs a) last_port h)

pub has_far : (s : ActionSet) (a : ℤ) → last_port < nat_abs a → has s a ≡ false
unfolding has
has_far s a h = ap (λ b. b && eqb (bit s.bits (place a)) 1) (lt-leb (nat_abs a) last_port h)

-- the set of the actions that pass
pub set_of_has : (f : ℤ → Bool) (a : ℤ) → has (set_of f) a ≡ (is_action a && f a)
unfolding set_of
set_of_has f a = go (cases_lt last_port (nat_abs a))
  where
    go : (last_port < nat_abs a) ⊎ (nat_abs a ≤ last_port) → has (set_of f) a ≡ (is_action a && f a)
    go (inl far) = has_far (set_of f) a far ∙ ap (λ b. b && f a) (sym (lt-leb (nat_abs a) last_port far))
    go (inr near) =
        has_bit (set_of f) a near
        ∙ ap (λ d. eqb d 1) (packed_bit 63 (λ k. f (signed k)) (place a) (place_below a near))
        ∙ digit_is (f (signed (place a)))
        ∙ ap f (signed_place a near)
        ∙ ap (λ b. b && f a) (sym (le-leb (nat_abs a) last_port near))

pub set_passes : (f : ℤ → Bool) (a : ℤ) → set_of f ∋ a → T (f a)
set_passes f a h = and_r (is_action a) (f a) (subst T (set_of_has f a) h)

pub passes_set : (f : ℤ → Bool) (a : ℤ) → nat_abs a ≤ last_port → T (f a) → set_of f ∋ a
passes_set f a near h = subst T (sym (set_of_has f a)) (and_i (is_action a) (f a) (le→leb (nat_abs a) last_port near) h)

pub and_false : (b : Bool) → (b && false) ≡ false
and_false true = refl
and_false false = refl

pub none_has : (a : ℤ) → has no_actions a ≡ false
none_has a = set_of_has (λ b. false) a ∙ and_false (is_action a)

-- sets that hold the same actions are equal
made : (b : ℕ) → b < 2 ^ 63 → ActionSet
made b h = record { bits = b; narrow = h }

same_bits : (b c : ℕ) (h : b < 2 ^ 63) (k : c < 2 ^ 63) → b ≡ c → made b h ≡ made c k
same_bits b c h k e = subst (λ x. (l : x < 2 ^ 63) → made b h ≡ made x l) e (λ l. ap (made b) (le_prop h l)) k

pub set_ext : (s t : ActionSet) → ((a : ℤ) → has s a ≡ has t a) → s ≡ t
unfolding made
set_ext s t h = same_bits s.bits t.bits s.narrow t.narrow (bits_tell 63 s.bits t.bits s.narrow t.narrow (λ k l. alike k l))
  where
    bit_one : (x y : ℕ) → x < 2 → y < 2 → eqb x 1 ≡ eqb y 1 → x ≡ y
    bit_one zero zero p q e = refl
    bit_one zero (suc zero) p q e = let z : ◌≡◌ {A = ℕ} 0 1 = absurd (subst T (sym e) tt) in omega arith
    bit_one (suc zero) zero p q e = absurd (subst T e tt)
    bit_one (suc zero) (suc zero) p q e = refl
    bit_one (suc (suc x)) y p q e = absurd (omega arith)
    bit_one zero (suc (suc y)) p q e = absurd (omega arith)
    bit_one (suc zero) (suc (suc y)) p q e = absurd (omega arith)

    alike : (k : ℕ) → k < 63 → bit s.bits k ≡ bit t.bits k
    alike k l =
        let near = signed_near k l in
        let a : bit s.bits k < 2 = omega arith in
        let b : bit t.bits k < 2 = omega arith in
        let e : has s (signed k) ≡ has t (signed k) = h (signed k) in
        bit_one (bit s.bits k) (bit t.bits k) a b
        (ap (λ j. eqb (bit s.bits j) 1) (sym (place_signed k l)) ∙ sym (has_bit s (signed k) near) ∙ e ∙ has_bit t (signed k) near ∙ ap (λ j. eqb (bit t.bits j) 1) (place_signed k l))

-- what the operations make, in the words of a contract
pub zero_has : (s : ActionSet) → s.bits ≡ 0 → (a : ℤ) → has s a ≡ false
unfolding has
zero_has s e a = ap (λ w. is_action a && eqb (bit w (place a)) 1) e ∙ ap (λ x. is_action a && eqb x 1) (none_bit (place a)) ∙ and_false (is_action a)

pub one_has : (s : ActionSet) (b : ℤ) → nat_abs b ≤ last_port → s.bits ≡ 2 ^ place b → (a : ℤ) → has s a ≡ (is_action b && same b a)
one_has s b near e a = go (cases_lt last_port (nat_abs a))
  where
    told : same b a ≡ false → (is_action b && same b a) ≡ false
    told f = ap (λ x. is_action b && x) f ∙ and_false (is_action b)

    apart : (same b a ≡ true) ⊎ (same b a ≡ false) → nat_abs a ≤ last_port → has s a ≡ (is_action b && same b a)
    apart (inl t) l =
        let q : b ≡ a = same_eq b a (T_true (same b a) t) in
        let w : eqb (bit s.bits (place a)) 1 ≡ true = ap (λ v. eqb (bit v (place a)) 1) (e ∙ ap (λ x. 2 ^ place x) q) ∙ ap (λ v. eqb v 1) (one_bit_same (place a)) in
        has_bit s a l ∙ w ∙ sym (ap (λ x. x && same b a) (le-leb (nat_abs b) last_port near) ∙ t)
    apart (inr f) l =
        let ne : place b ≡ place a → ⊥ = λ p. both_ways (same b a) f (true_T (same b a) (eq_same b a (place_one b a near l p))) in
        has_bit s a l ∙ ap (λ v. eqb (bit v (place a)) 1) e ∙ ap (λ v. eqb v 1) (one_bit_other (place b) (place a) ne) ∙ sym (told f)

    go : (last_port < nat_abs a) ⊎ (nat_abs a ≤ last_port) → has s a ≡ (is_action b && same b a)
    go (inl far) = has_far s a far ∙ sym (told (elim (cases_Bool (same b a)) [ inl t ↦ absurd (far_apart far (same_eq b a (T_true (same b a) t))) | inr f ↦ f ]))
      where
        far_apart : last_port < nat_abs a → b ≡ a → ⊥
        far_apart f q = let z : nat_abs b ≡ nat_abs a = ap nat_abs q in omega arith
    go (inr l) = apart (cases_Bool (same b a)) l

pub or_has : (s t u : ActionSet) → u.bits ≡ bit_or s.bits t.bits → (a : ℤ) → has u a ≡ (has s a || has t a)
or_has s t u e a = go (cases_lt last_port (nat_abs a))
  where
    go : (last_port < nat_abs a) ⊎ (nat_abs a ≤ last_port) → has u a ≡ (has s a || has t a)
    go (inl far) = has_far u a far ∙ sym (ap (λ x. x || has t a) (has_far s a far) ∙ has_far t a far)
    go (inr l) = has_bit u a l ∙ ap (λ w. eqb (bit w (place a)) 1) e ∙ or_test s.bits t.bits (place a) ∙ sym (ap (λ x. x || has t a) (has_bit s a l) ∙ ap (λ x. eqb (bit s.bits (place a)) 1 || x) (has_bit t a l))

-- a number as the code holds it, and back
pub told_action : (z : ℤ) (b : Bool) → SFits w8 z → b ≡ is_action (to_z w8 (of_z w8 z)) → b ≡ is_action z
told_action z b f e = e ∙ ap is_action (to_z-of_z w8 z f)

pub told_near : (z : ℤ) (b : Bool) → SFits w8 z → b ≡ is_action (to_z w8 (of_z w8 z)) → b ≡ true → nat_abs z ≤ last_port
told_near z b f e t = leb-true (nat_abs z) last_port (sym (told_action z b f e) ∙ t)

pub told_far : (z : ℤ) (b : Bool) → SFits w8 z → b ≡ is_action (to_z w8 (of_z w8 z)) → b ≡ false → last_port < nat_abs z
told_far z b f e t = leb-false (nat_abs z) last_port (sym (told_action z b f e) ∙ t)
