-- All actions, and what is said of two sets: one within the other, and opposites that meet. Assumes nothing.
use Rattle.std.proofs.Common.{◌≡◌, ℕ, zero, suc, ◌+◌, ◌<◌, ◌≤◌, min, Bool, true, false, not, ◌&&◌, ◌||◌, T, eqb, ◌⊎◌, ℤ, pos, negsuc, neg_ℤ, nat_abs, sym, refl, ap, ◌∙◌, subst, inl, inr, arith, eqb→eq, T_not}
use lib.Bits.{bit_and, and_lt}
use Rattle.std.proofs.lemmas.Bool.{cases_lt}
use Rattle.action.specs.declared.set.ActionSet.{ActionSet}
use Rattle.action.specs.Lists.{◌∈◌}
use Rattle.action.specs.Action.{internal, Opposite, same, last_port}
use Rattle.action.specs.Sets.{place, signed, has, ◌∋◌, rising, actions, within, meets, meets_on}
use Rattle.action.proofs.Basics.{and_l, and_r, and_i, or_cases, or_l, or_r, all_each, each_all, any_some, some_any, T_either, eq-eqb, le_split}
use Rattle.action.proofs.Bits.{bit, bits_tell, and_bit}
use Rattle.action.proofs.Sets.{same_eq, place_below, place_signed, signed_place, signed_near, has_near, has_bit}

-- tests that hold together are the same
pub both_true : (a b : Bool) → (T a → T b) → (T b → T a) → a ≡ b
both_true true true f g = refl
both_true true false f g = absurd (f tt)
both_true false true f g = absurd (g tt)
both_true false false f g = refl

-- every action is among all actions
in_rising : (n k j : ℕ) → k ≤ j → j < k + n → signed j ∈ rising n k
in_rising zero k j l u = absurd (omega arith)
in_rising (suc n) k j l u = go (le_split k j l) (in_rising n (suc k) j)
  where
    go : (k ≡ j) ⊎ (suc k ≤ j) → (suc k ≤ j → j < suc k + n → signed j ∈ rising n (suc k)) → signed j ∈ rising (suc n) k
    go (inl e) rec = inl (ap signed (sym e))
    go (inr m) rec = inr (rec m (omega arith))

pub in_actions : (a : ℤ) → nat_abs a ≤ last_port → a ∈ actions
unfolding actions
in_actions a h = subst (λ b. b ∈ rising 63 0) (signed_place a h) (in_rising 63 0 (place a) (omega arith) (omega (arith, place_below a h)))

-- one set within another
pub within_has : (s t : ActionSet) → T (within s t) → (a : ℤ) → s ∋ a → t ∋ a
unfolding within
within_has s t h a i = go (or_cases (not (has s a)) (has t a) (all_each (λ b. not (has s b) || has t b) actions h a (in_actions a (has_near s a i))))
  where
    go : T (not (has s a)) ⊎ T (has t a) → T (has t a)
    go (inl n) = absurd (T_not (has s a) n i)
    go (inr k) = k

pub has_within : (s t : ActionSet) → ((a : ℤ) → s ∋ a → t ∋ a) → T (within s t)
unfolding within
has_within s t h = each_all (λ b. not (has s b) || has t b) actions (λ a i. go a (T_either (has s a)))
  where
    go : (a : ℤ) → T (has s a) ⊎ T (not (has s a)) → T (not (has s a) || has t a)
    go a (inl k) = or_r (not (has s a)) (has t a) (h a k)
    go a (inr k) = or_l (not (has s a)) (has t a) k

-- .. by their words
has_one : (s : ActionSet) (a : ℤ) → s ∋ a → bit s.bits (place a) ≡ 1
has_one s a h = eqb→eq (bit s.bits (place a)) 1 (subst T (has_bit s a (has_near s a h)) h)

one_has_at : (s : ActionSet) (a : ℤ) → nat_abs a ≤ last_port → bit s.bits (place a) ≡ 1 → s ∋ a
one_has_at s a near e = subst T (sym (has_bit s a near)) (eq-eqb (bit s.bits (place a)) 1 e)

pub and_within : (s t : ActionSet) → bit_and s.bits t.bits ≡ s.bits → (a : ℤ) → s ∋ a → t ∋ a
and_within s t e a h =
    let one = has_one s a h in
    let both = and_bit s.bits t.bits (place a) in
    let kept : bit (bit_and s.bits t.bits) (place a) ≡ bit s.bits (place a) = ap (λ w. bit w (place a)) e in
    let small : bit t.bits (place a) < 2 = omega arith in
    one_has_at t a (has_near s a h) (omega arith)

pub within_and : (s t : ActionSet) → ((a : ℤ) → s ∋ a → t ∋ a) → bit_and s.bits t.bits ≡ s.bits
within_and s t h = bits_tell 63 (bit_and s.bits t.bits) s.bits (and_lt 63 s.bits t.bits s.narrow t.narrow) s.narrow (λ k l. and_bit s.bits t.bits k ∙ least k l (cases_lt (bit s.bits k) 1))
  where
    least : (k : ℕ) → k < 63 → (bit s.bits k < 1) ⊎ (1 ≤ bit s.bits k) → min (bit s.bits k) (bit t.bits k) ≡ bit s.bits k
    least k l (inl z) = omega arith
    least k l (inr o) =
        let small : bit s.bits k < 2 = omega arith in
        let near = signed_near k l in
        let here : bit s.bits (place (signed k)) ≡ 1 = ap (λ j. bit s.bits j) (place_signed k l) ∙ omega arith in
        let there : bit t.bits k ≡ 1 = ap (λ j. bit t.bits j) (sym (place_signed k l)) ∙ has_one t (signed k) (h (signed k) (one_has_at s (signed k) near here)) in
        omega arith

pub within_is : (s t : ActionSet) → eqb (bit_and s.bits t.bits) s.bits ≡ within s t
within_is s t =
    both_true (eqb (bit_and s.bits t.bits) s.bits) (within s t)
    (λ e. has_within s t (and_within s t (eqb→eq (bit_and s.bits t.bits) s.bits e)))
    (λ w. eq-eqb (bit_and s.bits t.bits) s.bits (within_and s t (within_has s t w)))

-- opposites that meet
abbrev pub Met : ActionSet → ActionSet → Type 0
Met s t = (a : ℤ) × (b : ℤ) × Opposite a b × (s ∋ a) × (t ∋ b)

abbrev met_by : ActionSet → ActionSet → ℤ → Bool
met_by s t a = not (same a internal) && (has s a && has t (neg_ℤ a))

pub meets_met : (s t : ActionSet) → T (meets s t) → Met s t
unfolding meets
meets_met s t h =
    let w = any_some (met_by s t) actions h in
    let both = and_r (not (same w.0 internal)) (has s w.0 && has t (neg_ℤ w.0)) w.2 in
    (w.0, neg_ℤ w.0, record { signal = λ e. T_not (same w.0 internal) (and_l (not (same w.0 internal)) (has s w.0 && has t (neg_ℤ w.0)) w.2) (subst (λ x. T (same x internal)) (sym e) tt); turned = refl }, and_l (has s w.0) (has t (neg_ℤ w.0)) both, and_r (has s w.0) (has t (neg_ℤ w.0)) both)

not_same : (a b : ℤ) → (a ≡ b → ⊥) → T (not (same a b))
not_same a b ne = go (T_either (same a b))
  where
    go : T (same a b) ⊎ T (not (same a b)) → T (not (same a b))
    go (inl e) = absurd (ne (same_eq a b e))
    go (inr n) = n

pub met_meets : (s t : ActionSet) → Met s t → T (meets s t)
unfolding meets
met_meets s t (a, b, o, i, j) =
    some_any (met_by s t) actions a (in_actions a (has_near s a i))
    (and_i (not (same a internal)) (has s a && has t (neg_ℤ a)) (not_same a internal o.signal) (and_i (has s a) (has t (neg_ℤ a)) i (subst (λ x. T (has t x)) o.turned j)))

-- .. port by port
pub on_met : (s t : ActionSet) (p : ℕ) → 1 ≤ p → T (meets_on s t p) → Met s t
on_met s t zero l h = absurd (omega arith)
on_met s t (suc p) l h = go (or_cases (has s (pos (suc p)) && has t (negsuc p)) (has s (negsuc p) && has t (pos (suc p))) h)
  where
    go : T (has s (pos (suc p)) && has t (negsuc p)) ⊎ T (has s (negsuc p) && has t (pos (suc p))) → Met s t
    go (inl k) = (pos (suc p), negsuc p, record { signal = λ e. (let z : suc p ≡ 0 = cc in omega arith); turned = refl }, and_l (has s (pos (suc p))) (has t (negsuc p)) k, and_r (has s (pos (suc p))) (has t (negsuc p)) k)
    go (inr k) = (negsuc p, pos (suc p), record { signal = λ e. (let z : ◌≡◌ {A = ℕ} 0 1 = cc in omega arith); turned = refl }, and_l (has s (negsuc p)) (has t (pos (suc p))) k, and_r (has s (negsuc p)) (has t (pos (suc p))) k)

pub met_on : (s t : ActionSet) → Met s t → (p : ℕ) × (1 ≤ p) × (p ≤ last_port) × T (meets_on s t p)
met_on s t (pos zero, b, o, i, j) = absurd (o.signal refl)
met_on s t (pos (suc n), b, o, i, j) = (suc n, omega arith, has_near s (pos (suc n)) i, or_l (has s (pos (suc n)) && has t (negsuc n)) (has s (negsuc n) && has t (pos (suc n))) (and_i (has s (pos (suc n))) (has t (negsuc n)) i (subst (λ x. T (has t x)) o.turned j)))
met_on s t (negsuc n, b, o, i, j) = (suc n, omega arith, has_near s (negsuc n) i, or_r (has s (pos (suc n)) && has t (negsuc n)) (has s (negsuc n) && has t (pos (suc n))) (and_i (has s (negsuc n)) (has t (pos (suc n))) i (subst (λ x. T (has t x)) o.turned j)))
