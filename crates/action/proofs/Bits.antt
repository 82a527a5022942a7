-- The bits of a word: of none, one, two words joined, a packed test, and a word told by its bits. Assumes nothing.
use Rattle.std.proofs.Common.{◌≡◌, ℕ, zero, suc, ◌+◌, ◌-◌, ◌*◌, ◌/◌, ◌%◌, ◌^◌, ◌<◌, ◌≤◌, min, max, Bool, true, false, ◌||◌, eqb, ◌⊎◌, sym, refl, ap, ◌∙◌, inl, inr, arith, pow_pos}
use native.Mathlib.Nat.{zero-div, div_self, div-eq_of_lt, pow-succ', div-div-eq-div-mul}
use lib.Bits.{bit_and, bit_or, and_step, and_shr, or_step, or_shr}
use lib.Pow.{pow-lt}
use Rattle.std.proofs.lemmas.Nat.{shl-shr, pow-add}
use Rattle.std.proofs.lemmas.Bool.{cases_order}
use Rattle.action.specs.Sets.{digit, packed}

abbrev pub bit : ℕ → ℕ → ℕ
bit w k = w / 2 ^ k % 2

pub digit_le : (b : Bool) → digit b ≤ 1
digit_le true = omega arith
digit_le false = omega arith

pub digit_is : (b : Bool) → eqb (digit b) 1 ≡ b
digit_is true = refl
digit_is false = refl

pub none_bit : (k : ℕ) → bit 0 k ≡ 0
none_bit k = ap (λ x. x % 2) (zero-div (2 ^ k))

-- the bit of half a word
pub half_bit : (w k : ℕ) → bit (w / 2) k ≡ bit w (suc k)
half_bit w k = ap (λ x. x % 2) (div-div-eq-div-mul w 2 (2 ^ k) ∙ ap (λ m. w / m) (sym (pow-succ' 2 k)))

pub packed_bit : (n : ℕ) (f : ℕ → Bool) (k : ℕ) → k < n → bit (packed n f) k ≡ digit (f k)
unfolding packed
packed_bit zero f k h = absurd (omega arith)
packed_bit (suc n) f zero h = let d = digit_le (f 0) in omega arith
packed_bit (suc n) f (suc k) h =
    let rest : ℕ = packed n (λ j. f (suc j)) in
    let d = digit_le (f 0) in
    let half : (digit (f 0) + 2 * rest) / 2 ≡ rest = omega arith in
    sym (half_bit (digit (f 0) + 2 * rest) k) ∙ ap (λ w. bit w k) half ∙ packed_bit n (λ j. f (suc j)) k (omega arith)

-- a word is told by its bits
pub bits_tell : (n w v : ℕ) → w < 2 ^ n → v < 2 ^ n → ((k : ℕ) → k < n → bit w k ≡ bit v k) → w ≡ v
bits_tell zero w v h g e = omega arith
bits_tell (suc n) w v h g e =
    let p = pow-succ' 2 n in
    let first : w / 1 % 2 ≡ v / 1 % 2 = e 0 (omega arith) in
    let rest : w / 2 ≡ v / 2 = bits_tell n (w / 2) (v / 2) (omega arith) (omega arith) (λ k l. half_bit w k ∙ e (suc k) (omega arith) ∙ sym (half_bit v k)) in
    omega arith

pub or_bit : (w v k : ℕ) → bit (bit_or w v) k ≡ max (bit w k) (bit v k)
or_bit w v k =
    let s = or_step (w / 2 ^ k) (v / 2 ^ k) in
    ap (λ x. x % 2) (or_shr w v k) ∙ omega arith

max_one : (a b : ℕ) → a < 2 → b < 2 → eqb (max a b) 1 ≡ (eqb a 1 || eqb b 1)
max_one zero zero h g = refl
max_one zero (suc zero) h g = refl
max_one (suc zero) zero h g = refl
max_one (suc zero) (suc zero) h g = refl
max_one (suc (suc a)) b h g = absurd (omega arith)
max_one zero (suc (suc b)) h g = absurd (omega arith)
max_one (suc zero) (suc (suc b)) h g = absurd (omega arith)

pub or_test : (w v k : ℕ) → eqb (bit (bit_or w v) k) 1 ≡ (eqb (bit w k) 1 || eqb (bit v k) 1)
or_test w v k =
    let a : bit w k < 2 = omega arith in
    let b : bit v k < 2 = omega arith in
    ap (λ x. eqb x 1) (or_bit w v k) ∙ max_one (bit w k) (bit v k) a b

pub one_bit_same : (k : ℕ) → bit (2 ^ k) k ≡ 1
one_bit_same k = ap (λ x. x % 2) (div_self (pow_pos k))

pub one_bit_other : (p q : ℕ) → (p ≡ q → ⊥) → bit (2 ^ p) q ≡ 0
one_bit_other p q ne = go (cases_order p q)
  where
    go : (p ≡ q) ⊎ ((p < q) ⊎ (q < p)) → bit (2 ^ p) q ≡ 0
    go (inl e) = absurd (ne e)
    go (inr (inl l)) = ap (λ x. x % 2) (div-eq_of_lt (pow-lt l))
    go (inr (inr k)) =
        let d : ℕ = p - q - 1 in
        let s : p ≡ suc d + q = omega arith in
        let t : 2 ^ p ≡ 2 ^ suc d * 2 ^ q = ap (λ x. 2 ^ x) s ∙ pow-add 2 (suc d) q in
        let u : 2 ^ p / 2 ^ q ≡ 2 ^ suc d = ap (λ x. x / 2 ^ q) t ∙ shl-shr (2 ^ suc d) q in
        let v = pow-succ' 2 d in
        omega arith

pub and_bit : (w v k : ℕ) → bit (bit_and w v) k ≡ min (bit w k) (bit v k)
and_bit w v k =
    let s = and_step (w / 2 ^ k) (v / 2 ^ k) in
    ap (λ x. x % 2) (and_shr w v k) ∙ omega arith
