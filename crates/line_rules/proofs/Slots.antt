-- Facts over the slots of a line, by their index. Assumes nothing.
use Rattle.std.proofs.Common.{◌≡◌, ℕ, zero, suc, ◌+◌, ◌<◌, ◌≤◌, Bool, true, false, T, ◌⊎◌, List, [], ◌∷◌, length, get_or, Some, None, Option, sym, refl, ap, ◌∙◌, subst, inl, inr, add-one, arith}
use Rattle.std.proofs.lemmas.Bool.{cases_Bool}
use Rattle.action.specs.Lists.{every}
use Rattle.action.proofs.Basics.{and_l, and_r, and_i, T_true, le_split}
use Rattle.catalogue.specs.Catalogue.{Module, state}

pub every_at : (n : ℕ) (f : ℕ → Bool) → T (every n f) → (k : ℕ) → k < n → T (f k)
every_at zero f h k l = absurd (omega arith)
every_at (suc n) f h k l = go (le_split (suc k) (suc n) l) (every_at n f (and_r (f n) (every n f) h) k)
  where
    go : (suc k ≡ suc n) ⊎ (suc (suc k) ≤ suc n) → (k < n → T (f k)) → T (f k)
    go (inl e) rec = let q : n ≡ k = omega arith in subst (λ z. T (f z)) q (and_l (f n) (every n f) h)
    go (inr m) rec = rec (omega arith)

pub at_every : (n : ℕ) (f : ℕ → Bool) → ((k : ℕ) → k < n → T (f k)) → T (every n f)
at_every zero f h = tt
at_every (suc n) f h = and_i (f n) (every n f) (h n (omega arith)) (at_every n f (λ k l. h k (omega arith)))

-- the list of f 0, f 1, .., f (n - 1)
pub tabled : ℕ → (ℕ → ℕ) → List ℕ
tabled zero f = []
tabled (suc n) f = f 0 ∷ tabled n (λ i. f (suc i))

pub length_tabled : (n : ℕ) (f : ℕ → ℕ) → length (tabled n f) ≡ n
unfolding tabled
length_tabled zero f = refl
length_tabled (suc n) f = ap suc (length_tabled n (λ i. f (suc i)))

pub get_d_tabled : (n : ℕ) (f : ℕ → ℕ) (i : ℕ) → i < n → get_or (tabled n f) i 0 ≡ f i
unfolding tabled
get_d_tabled zero f i l = absurd (omega arith)
get_d_tabled (suc n) f zero l = refl
get_d_tabled (suc n) f (suc i) l = get_d_tabled n (λ j. f (suc j)) i (omega arith)

-- where a tick leads, if there is one
abbrev led : Option ℕ → ℕ
led None = 0
led (Some d) = d

-- the codes that the ticks of n modules lead to, from the codes of a list
pub passed : ℕ → (ℕ → Module) → List ℕ → List ℕ
passed n the s = tabled n (λ i. led (state (the i) (get_or s i 0)).tick)

pub passed_wide : (n : ℕ) (the : ℕ → Module) (s : List ℕ) → length (passed n the s) ≡ n
unfolding passed
passed_wide n the s = length_tabled n (λ i. led (state (the i) (get_or s i 0)).tick)

pub passed_at : (n : ℕ) (the : ℕ → Module) (s : List ℕ) (i d : ℕ) → i < n → (state (the i) (get_or s i 0)).tick ≡ Some d → get_or (passed n the s) i 0 ≡ d
unfolding passed
passed_at n the s i d l e = get_d_tabled n (λ j. led (state (the j) (get_or s j 0)).tick) i l ∙ ap led e
