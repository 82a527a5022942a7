-- The pairs that a pair leads to are those of moves by one action and of ticks. Assumes nothing.
use Rattle.std.proofs.Common.{◌≡◌, ℕ, Bool, true, false, T, ◌⊎◌, List, [], ◌∷◌, ℤ, Some, None, Option, sym, refl, ap, subst, inl, inr}
use Rattle.action.specs.Lists.{◌∈◌, each}
use Rattle.action.specs.Action.{same}
use Rattle.action.proofs.Basics.{in_left, in_right, in_cases, in_each, T_true}
use Rattle.action.proofs.Sets.{same_eq, eq_same}
use Rattle.catalogue.specs.declared.Move.{Move}
use Rattle.catalogue.specs.Catalogue.{Module, state, move}
use Rattle.pair_table.specs.Pairs.{Pair, pair, both_tick, alike, by_moves, leads_to}

-- what stands in the lists one after the other stands in one of them
pub each_in : {A B : Type 0} (f : A → List B) (xs : List A) (y : B) → y ∈ each f xs → (x : A) × (x ∈ xs) × (y ∈ f x)
each_in f [] y i = absurd i
each_in {A} {B} f (x ∷ xs) y i = go (in_cases (f x) (each f xs) y i) (each_in f xs y)
  where
    go : (y ∈ f x) ⊎ (y ∈ each f xs) → (y ∈ each f xs → (z : A) × (z ∈ xs) × (y ∈ f z)) → (z : A) × (z ∈ (x ∷ xs)) × (y ∈ f z)
    go (inl k) rec = (x, inl refl, k)
    go (inr k) rec = let s = rec k in (s.0, inr s.1, s.2)

alike_in : (m n : Move) → T (same m.action n.action) → pair m.target n.target ∈ alike m n
alike_in m n h = go (same m.action n.action) h
  where
    go : (b : Bool) → T b → ◌∈◌ {A = Pair} (pair m.target n.target) (elim b [ true ↦ pair m.target n.target ∷ [] | false ↦ [] ])
    go true t = inl refl
    go false t = absurd t

in_alike : (m n : Move) (x : Pair) → x ∈ alike m n → T (same m.action n.action) × (x ≡ pair m.target n.target)
in_alike m n x i = go (same m.action n.action) refl i
  where
    go : (b : Bool) → same m.action n.action ≡ b → ◌∈◌ {A = Pair} x (elim b [ true ↦ pair m.target n.target ∷ [] | false ↦ [] ])
        → T (same m.action n.action) × (x ≡ pair m.target n.target)
    go true e (inl p) = (T_true (same m.action n.action) e, p)
    go true e (inr k) = absurd k
    go false e k = absurd k

pub alike_same : (m n : Move) → same m.action n.action ≡ true → alike m n ≡ pair m.target n.target ∷ []
alike_same m n e = ap {B = List Pair} (λ (b : Bool). elim b [ true ↦ pair m.target n.target ∷ [] | false ↦ [] ]) e

pub alike_other : (m n : Move) → same m.action n.action ≡ false → alike m n ≡ []
alike_other m n e = ap {B = List Pair} (λ (b : Bool). elim b [ true ↦ pair m.target n.target ∷ [] | false ↦ [] ]) e

in_both : (o t : Option ℕ) (d e : ℕ) → pair d e ∈ both_tick o t → (o ≡ Some d) × (t ≡ Some e)
in_both None t d e i = absurd i
in_both (Some p) None d e i = absurd i
in_both (Some p) (Some q) d e (inl h) = (ap (λ (x : Pair). Some x.new) (sym h), ap (λ (x : Pair). Some x.old) (sym h))
in_both (Some p) (Some q) d e (inr i) = absurd i

module _ (new old : Module) where
  abbrev moved : ℕ → ℕ → List Pair
  moved p q = by_moves (state new p).moves (state old q).moves

  abbrev ticked : ℕ → ℕ → List Pair
  ticked p q = both_tick (state new p).tick (state old q).tick

  pub leads_moves : (p q : ℕ) (a : ℤ) (d e : ℕ) → move a d ∈ (state new p).moves → move a e ∈ (state old q).moves → pair d e ∈ leads_to new old (pair p q)
  unfolding leads_to
  leads_moves p q a d e h k =
      in_left (moved p q) (ticked p q) (pair d e)
      (in_each (λ (m : Move). each (alike m) (state old q).moves) (state new p).moves (move a d) (pair d e) h
      (in_each (alike (move a d)) (state old q).moves (move a e) (pair d e) k (alike_in (move a d) (move a e) (eq_same a a refl))))

  pub leads_ticks : (p q d e : ℕ) → (state new p).tick ≡ Some d → (state old q).tick ≡ Some e → pair d e ∈ leads_to new old (pair p q)
  unfolding leads_to
  leads_ticks p q d e h k =
      in_right (moved p q) (ticked p q) (pair d e)
      (subst (λ o. pair d e ∈ both_tick o (state old q).tick) (sym h) (subst (λ t. pair d e ∈ both_tick (Some d) t) (sym k) (inl refl)))

  -- how a pair comes to be led to
  abbrev pub Led : (p q d e : ℕ) → Type 0
  Led p q d e =
      ((a : ℤ) × (move a d ∈ (state new p).moves) × (move a e ∈ (state old q).moves))
      ⊎ (((state new p).tick ≡ Some d) × ((state old q).tick ≡ Some e))

  pub led_by : (p q d e : ℕ) → pair d e ∈ leads_to new old (pair p q) → Led p q d e
  unfolding leads_to
  led_by p q d e i = go (in_cases (moved p q) (ticked p q) (pair d e) i)
    where
      by : (m : Move) → m ∈ (state new p).moves → (n : Move) → n ∈ (state old q).moves → pair d e ∈ alike m n → Led p q d e
      by m h n k l =
          let s = in_alike m n (pair d e) l in
          let act : m.action ≡ n.action = same_eq m.action n.action s.0 in
          let en : m.target ≡ d = ap (λ (x : Pair). x.new) (sym s.1) in
          let eo : n.target ≡ e = ap (λ (x : Pair). x.old) (sym s.1) in
          inl (
            m.action,
            subst (λ t. move m.action t ∈ (state new p).moves) en h,
            subst (λ t. move m.action t ∈ (state old q).moves) eo (subst (λ b. move b n.target ∈ (state old q).moves) (sym act) k),
          )

      go : (pair d e ∈ moved p q) ⊎ (pair d e ∈ ticked p q) → Led p q d e
      go (inl k) =
          let s = each_in (λ (m : Move). each (alike m) (state old q).moves) (state new p).moves (pair d e) k in
          let t = each_in (alike s.0) (state old q).moves (pair d e) s.2 in
          by s.0 s.1 t.0 t.1 t.2
      go (inr k) = inr (in_both (state new p).tick (state old q).tick d e k)
