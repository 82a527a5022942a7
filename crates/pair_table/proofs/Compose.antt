-- Strong faster-than relations compose, and each module has one to itself. Assumes nothing.
use Rattle.std.proofs.Common.{◌≡◌, ℕ, zero, suc, ◌<◌, ◌≤◌, Bool, ◌&&◌, ◌||◌, T, eqb, ltb, ◌⊎◌, subst, inl, inr, arith, eqb→eq, ltb→lt, lt→ltb}
use lib.Dec.{eqb_refl}
use Rattle.action.specs.Lists.{below}
use Rattle.action.proofs.Basics.{and_l, and_r, and_i, or_cases, or_l, or_r, le_split}
use Rattle.catalogue.specs.Catalogue.{Catalogue, Module, Lawful, Sound, codes, module_in, move}
use Rattle.catalogue.specs.Systems.{System, running, Clauses, FasterThan, Ties, Tied}
use Rattle.pair_table.specs.Laws.{Ordered}

pub below_some : (n : ℕ) (f : ℕ → Bool) → T (below n f) → (k : ℕ) × (k < n) × T (f k)
below_some zero f h = absurd h
below_some (suc n) f h = go (or_cases (f n) (below n f) h) (below_some n f)
  where
    go : T (f n) ⊎ T (below n f) → (T (below n f) → (k : ℕ) × (k < n) × T (f k)) → (k : ℕ) × (k < suc n) × T (f k)
    go (inl k) rec = (n, omega arith, k)
    go (inr k) rec = ((rec k).0, omega (arith, (rec k).1), (rec k).2)

pub some_below : (n : ℕ) (f : ℕ → Bool) (k : ℕ) → k < n → T (f k) → T (below n f)
some_below zero f k h t = absurd (omega arith)
some_below (suc n) f k h t = go (le_split (suc k) (suc n) h) (λ l. some_below n f k l t)
  where
    go : (suc k ≡ suc n) ⊎ (suc (suc k) ≤ suc n) → (k < n → T (below n f)) → T (f n || below n f)
    go (inl e) rec = or_l (f n) (below n f) (let q : k ≡ n = omega arith in subst (λ z. T (f z)) q t)
    go (inr l) rec = or_r (f n) (below n f) (rec (omega arith))

-- The composition of two relations, over the middle states below n.
module _ {S U : Type 0} where
  pub through : ℕ → (S → ℕ → Bool) → (ℕ → U → Bool) → S → U → Bool
  through n R Q p r = below n (λ q. R p q && Q q r)

  pub join : (n : ℕ) (R : S → ℕ → Bool) (Q : ℕ → U → Bool) (p : S) (q : ℕ) (r : U) → q < n → T (R p q) → T (Q q r) → T (through n R Q p r)
  unfolding through
  join n R Q p q r l h k = some_below n (λ x. R p x && Q x r) q l (and_i (R p q) (Q q r) h k)

  pub middle : (n : ℕ) (R : S → ℕ → Bool) (Q : ℕ → U → Bool) (p : S) (r : U) → T (through n R Q p r) → (q : ℕ) × T (R p q) × T (Q q r)
  unfolding through
  middle n R Q p r h =
      let s = below_some n (λ q. R p q && Q q r) h in
      (s.0, and_l (R p s.0) (Q s.0 r) s.2, and_r (R p s.0) (Q s.0 r) s.2)

-- Any two systems, and one between them whose states are numbers below n.
module _ {S U : Type 0} (A : System S) (B : System ℕ) (C : System U) (n : ℕ) (few : (q : ℕ) → B.State q → q < n) (R : S → ℕ → Bool) (Q : ℕ → U → Bool) where
  linked : FasterThan A B R → (p : S) (q : ℕ) (r : U) → T (R p q) → T (Q q r) → T (through n R Q p r)
  linked f p q r h k = join n R Q p q r (few q (f.right p q h)) h k

  clauses : FasterThan A B R → (p : S) (q : ℕ) (r : U) → Clauses A B R p q → Clauses B C Q q r → Clauses A C (through n R Q) p r
  clauses f p q r u v = record {
    forth = λ x p' m. (let s = u.forth x p' m in let t = v.forth x s.0 s.1 in (t.0, t.1, linked f p' s.0 t.0 s.2 t.2));
    back = λ x r' m. (let t = v.back x r' m in let s = u.back x t.0 t.1 in (s.0, s.1, linked f s.0 t.0 r' s.2 t.2));
    hurry = λ p' m x k. u.hurry p' m x (v.hurry (u.time p' m).0 (u.time p' m).1 x k);
    time = λ p' m. (let s = u.time p' m in let t = v.time s.0 s.1 in (t.0, t.1, linked f p' s.0 t.0 s.2 t.2));
  }

  pub composes : FasterThan A B R → FasterThan B C Q → FasterThan A C (through n R Q)
  composes f g = record {
    left = λ p r h. f.left p (middle n R Q p r h).0 (middle n R Q p r h).1;
    right = λ p r h. g.right (middle n R Q p r h).0 r (middle n R Q p r h).2;
    keeps = λ p r h. (let m = middle n R Q p r h in clauses f p m.0 r (f.keeps p m.0 m.1) (g.keeps m.0 r m.2));
  }

  pub ties_compose : Ties A B R → Ties B C Q → Ties A C (through n R Q)
  ties_compose f g = record {
    faster = composes f.faster g.faster;
    starts = join n R Q A.start B.start C.start (few B.start (f.faster.right A.start B.start f.starts)) f.starts g.starts;
  }

pub tied_through : {S U : Type 0} (A : System S) (b : Module) (C : System U) → Tied A (running b) → Tied (running b) C → Tied A C
tied_through A b C f g = (through (codes b) f.0 g.0, ties_compose A (running b) C (codes b) (λ q h. h) f.0 g.0 f.1 g.1)

-- the identity on the codes of a module
abbrev pub itself : Module → ℕ → ℕ → Bool
itself m p q = eqb p q && ltb p (codes m)

module _ (m : Module) (sound : Sound m) where
  one : (p : ℕ) → p < codes m → T (itself m p p)
  one p h = and_i (eqb p p) (ltb p (codes m)) (eqb_refl p) (lt→ltb p (codes m) h)

  its_clauses : (p : ℕ) → Clauses (running m) (running m) (itself m) p p
  its_clauses p = record {
    forth = λ x p' k. (p', k, one p' (sound.leads p (move x p') k));
    back = λ x p' k. (p', k, one p' (sound.leads p (move x p') k));
    hurry = λ p' k x u. u;
    time = λ p' k. (p', k, one p' (sound.passes p p' k));
  }

  pub ties_itself : Ties (running m) (running m) (itself m)
  ties_itself = record {
    faster = record {
      left = λ p q h. ltb→lt p (codes m) (and_r (eqb p q) (ltb p (codes m)) h);
      right = λ p q h. subst (λ z. z < codes m) (eqb→eq p q (and_l (eqb p q) (ltb p (codes m)) h)) (ltb→lt p (codes m) (and_r (eqb p q) (ltb p (codes m)) h));
      keeps = λ p q h. subst (λ z. Clauses (running m) (running m) (itself m) p z) (eqb→eq p q (and_l (eqb p q) (ltb p (codes m)) h)) (its_clauses p);
    };
    starts = one m.start sound.starts;
  }

pub ordered : (ms : Catalogue) → Lawful ms → Ordered ms
ordered ms l = record {
  itself = λ a h. (itself (module_in ms a), ties_itself (module_in ms a) (l.sound a h));
  compose = λ a b c f g. tied_through (running (module_in ms a)) (module_in ms b) (running (module_in ms c)) f g;
}
