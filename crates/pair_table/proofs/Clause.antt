-- The test of the three clauses says what the clauses say. Assumes nothing.
use Rattle.std.proofs.Common.{◌≡◌, ℕ, Bool, not, ◌&&◌, T, eqb, List, ℤ, is_some, Some, None, Option, sym, refl, ap, subst, eqb→eq}
use lib.Dec.{eqb_refl}
use Rattle.action.specs.Lists.{◌∈◌, any}
use Rattle.action.specs.Action.{same}
use Rattle.action.specs.Sets.{within}
use Rattle.catalogue.specs.declared.Move.{Move}
use Rattle.catalogue.specs.Catalogue.{Module, State, state, move}
use Rattle.pair_table.specs.Pairs.{Pair, pair, among}
use Rattle.pair_table.specs.Rounds.{answered, in_step, keeps}
use Rattle.action.proofs.Basics.{and_l, and_r, and_i, any_some, some_any, all_each, each_all}
use Rattle.action.proofs.Sets.{same_eq, eq_same}

pub among_in : (rows : List Pair) (p q : ℕ) → T (among rows p q) → pair p q ∈ rows
among_in rows p q h =
    let s = any_some (λ (r : Pair). eqb p r.new && eqb q r.old) rows h in
    let e = eqb→eq p s.0.new (and_l (eqb p s.0.new) (eqb q s.0.old) s.2) in
    let d = eqb→eq q s.0.old (and_r (eqb p s.0.new) (eqb q s.0.old) s.2) in
    subst (λ x. pair x q ∈ rows) (sym e) (subst (λ y. pair s.0.new y ∈ rows) (sym d) s.1)

pub in_among : (rows : List Pair) (p q : ℕ) → pair p q ∈ rows → T (among rows p q)
in_among rows p q h = some_any (λ (r : Pair). eqb p r.new && eqb q r.old) rows (pair p q) h (and_i (eqb p p) (eqb q q) (eqb_refl p) (eqb_refl q))

module _ (R : ℕ → ℕ → Bool) (here there : List Move) where
  abbrev fits : Move → Move → Bool
  fits m n = same m.action n.action && R m.target n.target

  pub answered_by : T (answered R here there) → (a : ℤ) (d : ℕ) → move a d ∈ here → (e : ℕ) × (move a e ∈ there) × T (R d e)
  answered_by h a d i =
      let s = any_some (fits (move a d)) there (all_each (λ (m : Move). any (fits m) there) here h (move a d) i) in
      let q = same_eq a s.0.action (and_l (same a s.0.action) (R d s.0.target) s.2) in
      (s.0.target, subst (λ b. move b s.0.target ∈ there) (sym q) s.1, and_r (same a s.0.action) (R d s.0.target) s.2)

  pub by_answers : ((a : ℤ) (d : ℕ) → move a d ∈ here → (e : ℕ) × (move a e ∈ there) × T (R d e)) → T (answered R here there)
  by_answers h = each_all (λ (m : Move). any (fits m) there) here (λ m i. (let s = h m.action m.target i in some_any (fits m) there (move m.action s.0) s.1 (and_i (same m.action m.action) (R m.target s.0) (eq_same m.action m.action refl) s.2)))

-- where a tick leads, if there is one
abbrev led : Option ℕ → ℕ
led None = 0
led (Some d) = d

never : {A : Type 0} (p : ℕ) → ◌≡◌ {A = Option ℕ} None (Some p) → A
never p e = absurd (subst (λ o. T (not (is_some o))) e tt)

pub in_step_means : (R : ℕ → ℕ → Bool) (p q : State) (o t : Option ℕ) → T (in_step R p q o t) → (p' : ℕ) → o ≡ Some p' → T (within q.urgent p.urgent) × ((q' : ℕ) × (t ≡ Some q') × T (R p' q'))
in_step_means R p q None t h p' e = never p' e
in_step_means R p q (Some x) None h p' e = absurd h
in_step_means R p q (Some x) (Some y) h p' e = (and_l (within q.urgent p.urgent) (R x y) h, (y, refl, subst (λ z. T (R z y)) (ap led e) (and_r (within q.urgent p.urgent) (R x y) h)))

pub means_in_step : (R : ℕ → ℕ → Bool) (p q : State) (o t : Option ℕ) → ((p' : ℕ) → o ≡ Some p' → T (within q.urgent p.urgent) × ((q' : ℕ) × (t ≡ Some q') × T (R p' q'))) → T (in_step R p q o t)
means_in_step R p q None t h = tt
means_in_step R p q (Some x) None h = never (h x refl).1.0 (h x refl).1.1
means_in_step R p q (Some x) (Some y) h = and_i (within q.urgent p.urgent) (R x y) (h x refl).0 (subst (λ z. T (R x z)) (sym (ap led (h x refl).1.1)) (h x refl).1.2)

-- the parts of the test at a row
pub record Kept (new old : Module) (now : List Pair) (p q : ℕ) : Type 0 where
  pub forth : T (answered (among now) (state new p).moves (state old q).moves)
  pub back : T (answered (λ y x. among now x y) (state old q).moves (state new p).moves)
  pub time : T (in_step (among now) (state new p) (state old q) (state new p).tick (state old q).tick)

module _ (new old : Module) (now : List Pair) (p q : ℕ) where
  abbrev F : Bool
  F = answered (among now) (state new p).moves (state old q).moves

  abbrev B : Bool
  B = answered (λ y x. among now x y) (state old q).moves (state new p).moves

  abbrev I : Bool
  I = in_step (among now) (state new p) (state old q) (state new p).tick (state old q).tick

  pub kept_parts : T (keeps new old now (pair p q)) → Kept new old now p q
  unfolding keeps
  kept_parts h = record { forth = and_l F (B && I) h; back = and_l B I (and_r F (B && I) h); time = and_r B I (and_r F (B && I) h) }

  pub parts_kept : Kept new old now p q → T (keeps new old now (pair p q))
  unfolding keeps
  parts_kept k = and_i F (B && I) k.forth (and_i B I k.back k.time)
