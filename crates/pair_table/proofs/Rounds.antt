-- The rounds settle within as many rounds as there are rows; what is left then keeps the clauses, and no pair that a strong
-- faster-than relation holds is ever dropped. Assumes nothing.
use Rattle.std.proofs.Common.{◌≡◌, ℕ, zero, suc, ◌<◌, ◌≤◌, Bool, true, false, T, ◌⊎◌, List, [], ◌∷◌, length, sym, refl, ap, ◌∙◌, subst, inl, inr, arith}
use Rattle.std.proofs.lemmas.Bool.{cases_lt}
use Rattle.action.specs.Lists.{◌∈◌, kept}
use Rattle.action.proofs.Basics.{kept_all, kept_in, in_kept, pass_or_fewer, le_split}
use Rattle.action.proofs.Relations.{within_has, has_within}
use Rattle.catalogue.specs.Catalogue.{Module, state}
use Rattle.catalogue.specs.Systems.{System, running, Clauses, FasterThan}
use Rattle.pair_table.specs.Pairs.{Pair, pair, among, leads_to}
use Rattle.pair_table.specs.Rounds.{keeps, refined, round}
use Rattle.pair_table.proofs.Clause.{in_among, answered_by, by_answers, in_step_means, means_in_step, Kept, kept_parts, parts_kept}
use Rattle.pair_table.proofs.Leads.{leads_moves, leads_ticks}
use Rattle.pair_table.proofs.Explored.{Closed}

-- a larger relation keeps the clauses
pub clauses_map : {S U : Type 0} (A : System S) (B : System U) (R Q : S → U → Bool) → ((p : S) (q : U) → T (R p q) → T (Q p q)) → (p : S) (q : U) → Clauses A B R p q → Clauses A B Q p q
clauses_map A B R Q f p q c = record {
  forth = λ a p' m. (let s = c.forth a p' m in (s.0, s.1, f p' s.0 s.2));
  back = λ a q' m. (let s = c.back a q' m in (s.0, s.1, f s.0 q' s.2));
  hurry = c.hurry;
  time = λ p' m. (let s = c.time p' m in (s.0, s.1, f p' s.0 s.2));
}

module _ (new old : Module) where
  -- a list that no round makes smaller
  abbrev pub Stable : List Pair → Type 0
  Stable pairs = (r : Pair) → r ∈ pairs → T (keeps new old pairs r)

  stays : (pairs : List Pair) → Stable pairs → (n : ℕ) → round new old pairs n ≡ pairs
  unfolding round refined
  stays pairs h zero = refl
  stays pairs h (suc n) = ap (λ now. kept (keeps new old now) now) (stays pairs h n) ∙ kept_all (keeps new old pairs) pairs h

  shift : (pairs : List Pair) (n : ℕ) → round new old (refined new old pairs) n ≡ round new old pairs (suc n)
  unfolding round
  shift pairs zero = refl
  shift pairs (suc n) = ap (refined new old) (shift pairs n)

  pub settles : (n : ℕ) (pairs : List Pair) → length pairs ≤ n → Stable (round new old pairs n)
  unfolding round refined
  settles zero [] h = λ r i. absurd i
  settles zero (x ∷ xs) h = absurd (omega arith)
  settles (suc n) pairs h = go (pass_or_fewer (keeps new old pairs) pairs) (settles n (refined new old pairs))
    where
      fewer : length (kept (keeps new old pairs) pairs) < length pairs → length (refined new old pairs) ≤ n
      fewer l = omega arith

      go : Stable pairs ⊎ (length (kept (keeps new old pairs) pairs) < length pairs) → (length (refined new old pairs) ≤ n → Stable (round new old (refined new old pairs) n)) → Stable (round new old pairs (suc n))
      go (inl s) rec = subst Stable (sym (stays pairs s (suc n))) s
      go (inr l) rec = subst Stable (shift pairs n) (rec (fewer l))

  -- each round keeps no more than the one before it
  pub falls : (pairs : List Pair) (k : ℕ) (r : Pair) → r ∈ round new old pairs (suc k) → r ∈ round new old pairs k
  unfolding round refined
  falls pairs k r i = in_kept (keeps new old (round new old pairs k)) (round new old pairs k) r i

  pub falls_to : (pairs : List Pair) (j k : ℕ) (r : Pair) → j ≤ k → r ∈ round new old pairs k → r ∈ round new old pairs j
  falls_to pairs j zero r h i = let e : zero ≡ j = omega arith in subst (λ z. r ∈ round new old pairs z) e i
  falls_to pairs j (suc k) r h i = go (le_split j (suc k) h) (falls_to pairs j k r)
    where
      go : (j ≡ suc k) ⊎ (suc j ≤ suc k) → (j ≤ k → r ∈ round new old pairs k → r ∈ round new old pairs j) → r ∈ round new old pairs j
      go (inl e) rec = subst (λ z. r ∈ round new old pairs z) (sym e) i
      go (inr l) rec = rec (omega arith) (falls pairs k r i)

  -- from a round that drops nothing on
  stays_from : (pairs : List Pair) (k : ℕ) → Stable (round new old pairs k) → (j : ℕ) → k ≤ j → round new old pairs j ≡ round new old pairs k
  unfolding round refined
  stays_from pairs k h zero l = let e : zero ≡ k = omega arith in ap (round new old pairs) e
  stays_from pairs k h (suc j) l = go (le_split k (suc j) l) (stays_from pairs k h j)
    where
      go : (k ≡ suc j) ⊎ (suc k ≤ suc j) → (k ≤ j → round new old pairs j ≡ round new old pairs k) → round new old pairs (suc j) ≡ round new old pairs k
      go (inl e) rec = ap (round new old pairs) (sym e)
      go (inr m) rec = ap (λ now. kept (keeps new old now) now) (rec (omega arith)) ∙ kept_all (keeps new old (round new old pairs k)) (round new old pairs k) h

  -- what is left after as many rounds as there are rows is never dropped
  pub last_stays : (pairs : List Pair) (r : Pair) → r ∈ round new old pairs (length pairs) → (k : ℕ) → r ∈ round new old pairs k
  last_stays pairs r i k = go (cases_lt k (length pairs))
    where
      go : (k < length pairs) ⊎ (length pairs ≤ k) → r ∈ round new old pairs k
      go (inl l) = falls_to pairs k (length pairs) r (omega arith) i
      go (inr l) = subst (λ z. r ∈ z) (sym (stays_from pairs (length pairs) (settles (length pairs) pairs (omega arith)) k l)) i

  pub round_none : (pairs : List Pair) (r : Pair) → r ∈ round new old pairs 0 → r ∈ pairs
  unfolding round
  round_none pairs r i = i

  pub none_round : (pairs : List Pair) (r : Pair) → r ∈ pairs → r ∈ round new old pairs 0
  unfolding round
  none_round pairs r i = i

  -- the pairs of a round that the next one keeps are those that keep the clauses with it
  pub round_more : (pairs : List Pair) (k : ℕ) (p q : ℕ) → pair p q ∈ round new old pairs k → Kept new old (round new old pairs k) p q → pair p q ∈ round new old pairs (suc k)
  unfolding round refined
  round_more pairs k p q i h = kept_in (keeps new old (round new old pairs k)) (round new old pairs k) (pair p q) i (parts_kept new old (round new old pairs k) p q h)

  pub round_kept : (pairs : List Pair) (k : ℕ) (p q : ℕ) → pair p q ∈ round new old pairs (suc k) → Kept new old (round new old pairs k) p q
  unfolding round refined
  round_kept pairs k p q i = kept_parts new old (round new old pairs k) p q (kept_passes (keeps new old (round new old pairs k)) (round new old pairs k) (pair p q) i)
    where
      kept_passes : (f : Pair → Bool) (xs : List Pair) (x : Pair) → x ∈ kept f xs → T (f x)
      kept_passes f [] x i = absurd i
      kept_passes f (y ∷ ys) x i = go (f y) refl i (kept_passes f ys x)
        where
          go : (b : Bool) → f y ≡ b → ◌∈◌ {A = Pair} x (elim b [ true ↦ y ∷ kept f ys | false ↦ kept f ys ]) → (x ∈ kept f ys → T (f x)) → T (f x)
          go true e (inl p) rec = subst (λ z. T (f z)) (sym p) (subst T (sym e) tt)
          go true e (inr m) rec = rec m
          go false e m rec = rec m

  -- the clauses, of a pair that keeps them with a list
  pub kept_clauses : (now : List Pair) (p q : ℕ) → Kept new old now p q → Clauses (running new) (running old) (among now) p q
  kept_clauses now p q k = record {
    forth = answered_by (among now) (state new p).moves (state old q).moves k.forth;
    back = answered_by (λ y x. among now x y) (state old q).moves (state new p).moves k.back;
    hurry = λ p' e a u. within_has (state old q).urgent (state new p).urgent (in_step_means (among now) (state new p) (state old q) (state new p).tick (state old q).tick k.time p' e).0 a u;
    time = λ p' e. (in_step_means (among now) (state new p) (state old q) (state new p).tick (state old q).tick k.time p' e).1;
  }

  pub clauses_kept : (now : List Pair) (p q : ℕ) → Clauses (running new) (running old) (among now) p q → Kept new old now p q
  clauses_kept now p q c = record {
    forth = by_answers (among now) (state new p).moves (state old q).moves c.forth;
    back = by_answers (λ y x. among now x y) (state old q).moves (state new p).moves c.back;
    time = means_in_step (among now) (state new p) (state old q) (state new p).tick (state old q).tick (λ p' t. (has_within (state old q).urgent (state new p).urgent (c.hurry p' t), c.time p' t));
  }

  pub stable_clauses : (pairs : List Pair) → Stable pairs → (p q : ℕ) → pair p q ∈ pairs → Clauses (running new) (running old) (among pairs) p q
  stable_clauses pairs h p q i = kept_clauses pairs p q (kept_parts new old pairs p q (h (pair p q) i))

  -- each row that a strong faster-than relation holds is kept in every round
  pub survives : (pairs : List Pair) → Closed new old pairs → (R : ℕ → ℕ → Bool) → FasterThan (running new) (running old) R → (k : ℕ) (p q : ℕ) → pair p q ∈ pairs → T (R p q) → pair p q ∈ round new old pairs k
  survives pairs shut R f zero p q i h = none_round pairs (pair p q) i
  survives pairs shut R f (suc k) p q i h = again (survives pairs shut R f k)
    where
      again : ((x y : ℕ) → pair x y ∈ pairs → T (R x y) → pair x y ∈ round new old pairs k) → pair p q ∈ round new old pairs (suc k)
      again rec = round_more pairs k p q (rec p q i h) (clauses_kept (round new old pairs k) p q (record {
        forth = λ a d m. (let s = (f.keeps p q h).forth a d m in (s.0, s.1, there d s.0 (leads_moves new old p q a d s.0 m s.1) s.2));
        back = λ a e m. (let s = (f.keeps p q h).back a e m in (s.0, s.1, there s.0 e (leads_moves new old p q a s.0 e s.1 m) s.2));
        hurry = (f.keeps p q h).hurry;
        time = λ p' t. (let s = (f.keeps p q h).time p' t in (s.0, s.1, there p' s.0 (leads_ticks new old p q p' s.0 t s.1) s.2));
      }))
        where
          there : (x y : ℕ) → pair x y ∈ leads_to new old (pair p q) → T (R x y) → T (among (round new old pairs k) x y)
          there x y l t = in_among (round new old pairs k) x y (rec x y (shut (pair p q) i (pair x y) l) t)
