-- What a pair's rank is: 0 where every round keeps the pair, else the first round that does not. Assumes nothing.
use Rattle.std.proofs.Common.{◌≡◌, ℕ, zero, suc, ◌+◌, ◌<◌, ◌≤◌, Bool, true, false, not, T, ◌⊎◌, List, [], ◌∷◌, length, sym, refl, subst, inl, inr, arith, T_not}
use Rattle.action.specs.Lists.{◌∈◌, first}
use Rattle.action.proofs.Basics.{T_either, T_true, le_split, first_none, none_first}
use Rattle.catalogue.specs.Catalogue.{Module}
use Rattle.pair_table.specs.Pairs.{Pair, pair, among}
use Rattle.pair_table.specs.Rounds.{round, rank}
use Rattle.pair_table.proofs.Clause.{among_in, in_among}

first_is : (f : ℕ → Bool) (n k m : ℕ) → k ≤ m → m < k + n → ((j : ℕ) → k ≤ j → j < m → T (not (f j))) → T (f m) → first f n k ≡ m
first_is f zero k m l u before h = absurd (omega arith)
first_is f (suc n) k m l u before h = go (f k) refl (le_split k m l) (first_is f n (suc k) m)
  where
    go : (b : Bool) → f k ≡ b → (k ≡ m) ⊎ (suc k ≤ m) → (suc k ≤ m → m < suc k + n → ((j : ℕ) → suc k ≤ j → j < m → T (not (f j))) → T (f m) → first f n (suc k) ≡ m) → ◌≡◌ {A = ℕ} (elim b [ true ↦ k | false ↦ first f n (suc k) ]) m
    go true e (inl p) rec = p
    go true e (inr q) rec = absurd (T_not (f k) (before k (omega arith) q) (T_true (f k) e))
    go false e (inl p) rec = absurd (subst T e (subst (λ j. T (f j)) (sym p) h))
    go false e (inr q) rec = rec q (omega arith) (λ j a b. before j (omega arith) b) h

not_not : (b : Bool) → T (not (not b)) → T b
not_not true h = h
not_not false h = h

twice : (b : Bool) → T b → T (not (not b))
twice true t = t
twice false t = t

some_length : {A : Type 0} (x : A) (xs : List A) → x ∈ xs → 1 ≤ length xs
some_length x [] i = absurd i
some_length x (y ∷ ys) i = omega arith

module _ (new old : Module) (pairs : List Pair) (p q : ℕ) where
  abbrev gone : ℕ → Bool
  gone k = not (among (round new old pairs k) p q)

  abbrev In : ℕ → Type 0
  In k = pair p q ∈ round new old pairs k

  still : (k : ℕ) → In k → T (not (gone k))
  still k i = twice (among (round new old pairs k) p q) (in_among (round new old pairs k) p q i)

  pub rank_kept : ((k : ℕ) → In k) → rank new old pairs (pair p q) ≡ 0
  unfolding rank
  rank_kept h = first_none gone (length pairs) 1 (λ k. still k (h k))

  pub rank_dropped : (x : ℕ) → 1 ≤ x → x ≤ length pairs → ((k : ℕ) → k < x → In k) → (In x → ⊥) → rank new old pairs (pair p q) ≡ x
  unfolding rank
  rank_dropped x o l before h = first_is gone (length pairs) 1 x o (omega arith) (λ j a b. still j (before j b)) (go (T_either (among (round new old pairs x) p q)))
    where
      go : T (among (round new old pairs x) p q) ⊎ T (not (among (round new old pairs x) p q)) → T (gone x)
      go (inl t) = absurd (h (among_in (round new old pairs x) p q t))
      go (inr t) = t

  -- a pair of rank 0 is there in the last round
  pub kept_last : pair p q ∈ pairs → rank new old pairs (pair p q) ≡ 0 → In (length pairs)
  unfolding rank
  kept_last i e =
      among_in (round new old pairs (length pairs)) p q
      (not_not (among (round new old pairs (length pairs)) p q) (none_first gone (length pairs) 1 (omega arith) e (length pairs) (some_length (pair p q) pairs i) (omega arith)))
