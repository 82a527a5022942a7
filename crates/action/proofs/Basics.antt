-- What the words of specs/Lists say, as facts to use and to prove. Assumes nothing.
use Rattle.std.proofs.Common.{◌≡◌, ℕ, zero, suc, ◌+◌, ◌<◌, ◌≤◌, Bool, true, false, not, ◌&&◌, ◌||◌, T, eqb, ltb, ◌⊎◌, List, [], ◌∷◌, ◌++◌, length, sym, refl, ap, subst, inl, inr, arith, ltb→lt, nltb→le}
use lib.Dec.{eqb_refl}
use Rattle.action.specs.Lists.{◌∈◌, all, any, kept, each, first}

pub and_l : (a b : Bool) → T (a && b) → T a
and_l true b h = tt
and_l false b h = h

pub and_r : (a b : Bool) → T (a && b) → T b
and_r true b h = h
and_r false b h = absurd h

pub and_i : (a b : Bool) → T a → T b → T (a && b)
and_i true b h k = k
and_i false b h k = h

pub or_cases : (a b : Bool) → T (a || b) → T a ⊎ T b
or_cases true b h = inl tt
or_cases false b h = inr h

pub or_l : (a b : Bool) → T a → T (a || b)
or_l true b h = tt
or_l false b h = absurd h

pub or_r : (a b : Bool) → T b → T (a || b)
or_r true b h = tt
or_r false b h = h

pub T_true : (b : Bool) → b ≡ true → T b
T_true true e = tt
T_true false e = subst T (sym e) tt

pub true_T : (b : Bool) → T b → b ≡ true
true_T true h = refl
true_T false h = absurd h

pub T_either : (b : Bool) → T b ⊎ T (not b)
T_either true = inl tt
T_either false = inr tt

pub eq-eqb : (m n : ℕ) → m ≡ n → T (eqb m n)
eq-eqb m n e = subst (λ k. T (eqb m k)) e (eqb_refl m)

module _ {A : Type 0} where
  pub any_some : (f : A → Bool) (xs : List A) → T (any f xs) → (x : A) × (x ∈ xs) × T (f x)
  any_some f [] h = absurd h
  any_some f (y ∷ ys) h = go (or_cases (f y) (any f ys) h) (any_some f ys)
    where
      go : T (f y) ⊎ T (any f ys) → (T (any f ys) → (x : A) × (x ∈ ys) × T (f x)) → (x : A) × (x ∈ (y ∷ ys)) × T (f x)
      go (inl k) rec = (y, inl refl, k)
      go (inr k) rec = ((rec k).0, inr (rec k).1, (rec k).2)

  pub some_any : (f : A → Bool) (xs : List A) (x : A) → x ∈ xs → T (f x) → T (any f xs)
  some_any f [] x i h = absurd i
  some_any f (y ∷ ys) x (inl e) h = or_l (f y) (any f ys) (subst (λ z. T (f z)) e h)
  some_any f (y ∷ ys) x (inr i) h = or_r (f y) (any f ys) (some_any f ys x i h)

  pub all_each : (f : A → Bool) (xs : List A) → T (all f xs) → (x : A) → x ∈ xs → T (f x)
  all_each f [] h x i = absurd i
  all_each f (y ∷ ys) h x (inl e) = subst (λ z. T (f z)) (sym e) (and_l (f y) (all f ys) h)
  all_each f (y ∷ ys) h x (inr i) = all_each f ys (and_r (f y) (all f ys) h) x i

  pub each_all : (f : A → Bool) (xs : List A) → ((x : A) → x ∈ xs → T (f x)) → T (all f xs)
  each_all f [] h = tt
  each_all f (y ∷ ys) h = and_i (f y) (all f ys) (h y (inl refl)) (each_all f ys (λ x i. h x (inr i)))

  pub in_left : (xs ys : List A) (x : A) → x ∈ xs → x ∈ (xs ++ ys)
  in_left [] ys x i = absurd i
  in_left (z ∷ zs) ys x (inl e) = inl e
  in_left (z ∷ zs) ys x (inr i) = inr (in_left zs ys x i)

  pub in_right : (xs ys : List A) (x : A) → x ∈ ys → x ∈ (xs ++ ys)
  in_right [] ys x i = i
  in_right (z ∷ zs) ys x i = inr (in_right zs ys x i)

  pub in_cases : (xs ys : List A) (x : A) → x ∈ (xs ++ ys) → (x ∈ xs) ⊎ (x ∈ ys)
  in_cases [] ys x i = inr i
  in_cases (z ∷ zs) ys x (inl e) = inl (inl e)
  in_cases (z ∷ zs) ys x (inr i) = go (in_cases zs ys x i)
    where
      go : (x ∈ zs) ⊎ (x ∈ ys) → (x ∈ (z ∷ zs)) ⊎ (x ∈ ys)
      go (inl k) = inl (inr k)
      go (inr k) = inr k

  -- what is kept stood there and passes
  pub kept_in : (f : A → Bool) (xs : List A) (x : A) → x ∈ xs → T (f x) → x ∈ kept f xs
  kept_in f [] x i h = absurd i
  kept_in f (y ∷ ys) x i h = go (f y) refl i (kept_in f ys x)
    where
      go : (b : Bool) → f y ≡ b → (x ∈ (y ∷ ys)) → (x ∈ ys → T (f x) → x ∈ kept f ys) → x ∈ elim b [ true ↦ y ∷ kept f ys | false ↦ kept f ys ]
      go true e (inl p) rec = inl p
      go true e (inr k) rec = inr (rec k h)
      go false e (inl p) rec = absurd (subst T e (subst (λ z. T (f z)) p h))
      go false e (inr k) rec = rec k h

  pub in_kept : (f : A → Bool) (xs : List A) (x : A) → x ∈ kept f xs → x ∈ xs
  in_kept f [] x i = i
  in_kept f (y ∷ ys) x i = go (f y) i (in_kept f ys x)
    where
      go : (b : Bool) → ◌∈◌ {A = A} x (elim b [ true ↦ y ∷ kept f ys | false ↦ kept f ys ]) → (x ∈ kept f ys → x ∈ ys) → x ∈ (y ∷ ys)
      go true (inl e) rec = inl e
      go true (inr k) rec = inr (rec k)
      go false k rec = inr (rec k)

  pub kept_le : (f : A → Bool) (xs : List A) → length (kept f xs) ≤ length xs
  kept_le f [] = omega arith
  kept_le f (y ∷ ys) = go (f y) (kept_le f ys)
    where
      go : (b : Bool) → length (kept f ys) ≤ length ys → length {A = A} (elim b [ true ↦ y ∷ kept f ys | false ↦ kept f ys ]) ≤ length (y ∷ ys)
      go true h = omega arith
      go false h = omega arith

  -- either all pass, or fewer are kept
  pub pass_or_fewer : (f : A → Bool) (xs : List A) → ((x : A) → x ∈ xs → T (f x)) ⊎ (length (kept f xs) < length xs)
  pass_or_fewer f [] = inl (λ x i. absurd i)
  pass_or_fewer f (y ∷ ys) = go (f y) refl (pass_or_fewer f ys)
    where
      go : (b : Bool) → f y ≡ b → ((x : A) → x ∈ ys → T (f x)) ⊎ (length (kept f ys) < length ys) → ((x : A) → x ∈ (y ∷ ys) → T (f x)) ⊎ (length {A = A} (elim b [ true ↦ y ∷ kept f ys | false ↦ kept f ys ]) < length (y ∷ ys))
      go true e (inl h) = inl (λ x. elim [ inl p ↦ subst (λ z. T (f z)) (sym p) (T_true (f y) e) | inr k ↦ h x k ])
      go true e (inr l) = inr (omega arith)
      go false e (inl h) = inr (omega (arith, kept_le f ys))
      go false e (inr l) = inr (omega arith)

  pub kept_all : (f : A → Bool) (xs : List A) → ((x : A) → x ∈ xs → T (f x)) → kept f xs ≡ xs
  kept_all f [] h = refl
  kept_all f (y ∷ ys) h = go (f y) (h y (inl refl)) (kept_all f ys (λ x i. h x (inr i)))
    where
      go : (b : Bool) → T b → kept f ys ≡ ys → ◌≡◌ {A = List A} (elim b [ true ↦ y ∷ kept f ys | false ↦ kept f ys ]) (y ∷ ys)
      go true t e = ap (λ zs. y ∷ zs) e
      go false t e = absurd t

pub in_each : {A B : Type 0} (f : A → List B) (xs : List A) (x : A) (y : B) → x ∈ xs → y ∈ f x → y ∈ each f xs
in_each f [] x y i k = absurd i
in_each f (z ∷ zs) x y (inl e) k = in_left (f z) (each f zs) y (subst (λ w. y ∈ f w) e k)
in_each f (z ∷ zs) x y (inr i) k = in_right (f z) (each f zs) y (in_each f zs x y i k)

pub le_split : (k j : ℕ) → k ≤ j → (k ≡ j) ⊎ (suc k ≤ j)
le_split k j h = go (T_either (ltb k j))
  where
    go : T (ltb k j) ⊎ T (not (ltb k j)) → (k ≡ j) ⊎ (suc k ≤ j)
    go (inl t) = inr (ltb→lt k j t)
    go (inr t) = inl (omega (arith, nltb→le k j t))

-- `first`: 0 exactly where none passes
pub first_none : (f : ℕ → Bool) (n k : ℕ) → ((j : ℕ) → T (not (f j))) → first f n k ≡ 0
first_none f zero k h = refl
first_none f (suc n) k h = go (f k) (h k) (first_none f n (suc k) h)
  where
    go : (b : Bool) → T (not b) → first f n (suc k) ≡ 0 → ◌≡◌ {A = ℕ} (elim b [ true ↦ k | false ↦ first f n (suc k) ]) 0
    go true t e = absurd t
    go false t e = e

pub none_first : (f : ℕ → Bool) (n k : ℕ) → 1 ≤ k → first f n k ≡ 0 → (j : ℕ) → k ≤ j → j < k + n → T (not (f j))
none_first f zero k o e j l u = absurd (omega arith)
none_first f (suc n) k o e j l u = go (f k) refl e (none_first f n (suc k) (omega arith))
  where
    here : f k ≡ false → k ≡ j → T (not (f j))
    here q p = subst (λ z. T (not (f z))) p (subst (λ b. T (not b)) (sym q) tt)

    split : (k ≡ j) ⊎ (suc k ≤ j)
    split = le_split k j l

    go : (b : Bool) → f k ≡ b → ◌≡◌ {A = ℕ} (elim b [ true ↦ k | false ↦ first f n (suc k) ]) 0 → (first f n (suc k) ≡ 0 → (i : ℕ) → suc k ≤ i → i < suc k + n → T (not (f i))) → T (not (f j))
    go true q z rec = absurd (omega arith)
    go false q z rec = elim split [ inl p ↦ here q p | inr m ↦ rec z j m (omega arith) ]
