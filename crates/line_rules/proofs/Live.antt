-- A line of a lawful catalogue never stands: in each state a tick or an internal event can take place. Assumes nothing.
use Rattle.std.proofs.Common.{◌≡◌, ℕ, ◌<◌, Bool, true, false, not, ◌&&◌, ◌||◌, T, eqb, ◌≢◌, ◌⊎◌, List, length, get_or, set, ℤ, neg_ℤ, is_some, Some, None, Option, sym, refl, ap, ◌∙◌, inl, inr, eqb→eq, T_not}
use lib.Dec.{not_T}
use Rattle.action.specs.Lists.{◌∈◌, any, below}
use Rattle.action.specs.Action.{internal, Opposite, same}
use Rattle.action.specs.Sets.{has, ◌∋◌}
use Rattle.action.proofs.Basics.{and_l, and_r, and_i, or_cases, or_l, or_r, any_some, some_any, eq-eqb, T_either, T_true}
use Rattle.action.proofs.Sets.{same_eq, eq_same}
use Rattle.catalogue.specs.declared.Move.{Move}
use Rattle.catalogue.specs.Catalogue.{Catalogue, Lawful, Module, Sound, codes, state, move}
use Rattle.pair_table.proofs.Compose.{below_some, some_below}
use Rattle.line_rules.specs.Line.{Line, slot, inside, outward, Hidden, Standing, Urges, Ticking, line_running}
use Rattle.line_rules.specs.Swapping.{NeverStands}
use Rattle.line_rules.proofs.Ticked.{ticked}

-- a state of a sound module ticks, or offers the internal event
ticks_or_moves : (m : Module) → Sound m → (c : ℕ) → c < codes m → ((d : ℕ) × ((state m c).tick ≡ Some d)) ⊎ ((d : ℕ) × (move internal d ∈ (state m c).moves))
ticks_or_moves m sound c l = go (state m c).tick refl
  where
    urgent : is_some (state m c).tick ≡ false → (state m c).urgent ∋ internal
    urgent e = untrue (has (state m c).urgent internal) (sym (sound.ticks c l) ∙ e)
      where
        untrue : (b : Bool) → not b ≡ false → T b
        untrue true q = tt
        untrue false q = T_true false (sym q)

    go : (o : Option ℕ) → (state m c).tick ≡ o → ((d : ℕ) × ((state m c).tick ≡ Some d)) ⊎ ((d : ℕ) × (move internal d ∈ (state m c).moves))
    go (Some d) e = inl (d, e)
    go None e = inr (sound.offers c internal (urgent (ap is_some e)))

-- opposite actions, as a test
abbrev opposed : ℤ → ℤ → Bool
opposed a b = not (same a internal) && same b (neg_ℤ a)

opposed_is : (a b : ℤ) → T (opposed a b) → Opposite a b
opposed_is a b h = record {
  signal = λ e. T_not (same a internal) (and_l (not (same a internal)) (same b (neg_ℤ a)) h) (eq_same a internal e);
  turned = same_eq b (neg_ℤ a) (and_r (not (same a internal)) (same b (neg_ℤ a)) h);
}

is_opposed : (a b : ℤ) → Opposite a b → T (opposed a b)
is_opposed a b o = and_i (not (same a internal)) (same b (neg_ℤ a)) (not_T (same a internal) (λ t. o.signal (same_eq a internal t))) (eq_same b (neg_ℤ a) o.turned)

module _ (ms : Catalogue) (lawful : Lawful ms) (l : Line) (known : (i : ℕ) → i < length l.slots → (slot l i).holds < length ms) (open' : ¬ Hidden l internal) (s : List ℕ) (standing : Standing ms l s) where
  abbrev moves : ℕ → List Move
  moves i = (state (inside ms l i) (get_or s i 0)).moves

  abbrev Inner : Type 0
  Inner = (t : List ℕ) × (line_running ms l).Moves s internal t

  -- slot i has a move that is the internal event to the line; slots i and j have moves that meet
  abbrev inner : ℕ → Move → Bool
  inner i m = same (outward l i m.action) internal

  abbrev meets : ℕ → ℕ → Move → Bool
  meets i j m = any (λ (k : Move). opposed (outward l i m.action) (outward l j k.action)) (moves j)

  abbrev alone? : ℕ → Bool
  alone? i = any (inner i) (moves i)

  abbrev joint? : ℕ → ℕ → Bool
  joint? i j = not (eqb i j) && any (meets i j) (moves i)

  sound : (i : ℕ) → i < length l.slots → Sound (inside ms l i)
  sound i k = lawful.sound (slot l i).holds (known i k)

  alone_moves : (i : ℕ) → i < length l.slots → T (alone? i) → Inner
  alone_moves i k h =
      let m = any_some (inner i) (moves i) h in
      (set s i m.0.target, inl (record { i = i; by = m.0.action; to = m.0.target; known = k; moves = m.1; is = sym (same_eq (outward l i m.0.action) internal m.2); seen = open'; leaves = refl }))

  moves_alone : (i : ℕ) (a : ℤ) (d : ℕ) → move a d ∈ moves i → internal ≡ outward l i a → T (alone? i)
  moves_alone i a d h e = some_any (inner i) (moves i) (move a d) h (eq_same (outward l i a) internal (sym e))

  joint_moves : (i j : ℕ) → i < length l.slots → j < length l.slots → T (joint? i j) → Inner
  joint_moves i j k k' h =
      let m = any_some (meets i j) (moves i) (and_r (not (eqb i j)) (any (meets i j) (moves i)) h) in
      let n = any_some (λ (n : Move). opposed (outward l i m.0.action) (outward l j n.action)) (moves j) m.2 in (
        set (set s i m.0.target) j n.0.target,
        inr (record {
          i = i;
          j = j;
          by_i = m.0.action;
          by_j = n.0.action;
          to_i = m.0.target;
          to_j = n.0.target;
          known_i = k;
          known_j = k';
          apart = λ e. T_not (eqb i j) (and_l (not (eqb i j)) (any (meets i j) (moves i)) h) (eq-eqb i j e);
          moves_i = m.1;
          moves_j = n.1;
          meet = opposed_is (outward l i m.0.action) (outward l j n.0.action) n.2;
          is = refl;
          leaves = refl;
        }),
      )

  moves_joint : (i j : ℕ) (a b : ℤ) (c d : ℕ) → i ≢ j → move a c ∈ moves i → move b d ∈ moves j → Opposite (outward l i a) (outward l j b) → T (joint? i j)
  moves_joint i j a b c d n h k o =
      and_i (not (eqb i j)) (any (meets i j) (moves i)) (not_T (eqb i j) (λ t. n (eqb→eq i j t)))
      (some_any (meets i j) (moves i) (move a c) h (some_any (λ (x : Move). opposed (outward l i a) (outward l j x.action)) (moves j) (move b d) k (is_opposed (outward l i a) (outward l j b) o)))

  abbrev size : ℕ
  size = length l.slots

  abbrev alones? : Bool
  alones? = below size alone?

  abbrev joints? : Bool
  joints? = below size (λ i. below size (joint? i))

  found : T (alones? || joints?) → Inner
  found h = go (or_cases alones? joints? h)
    where
      go : T alones? ⊎ T joints? → Inner
      go (inl a) = let m = below_some size alone? a in alone_moves m.0 m.1 m.2
      go (inr j) =
          let m = below_some size (λ i. below size (joint? i)) j in
          let n = below_some size (joint? m.0) m.2 in
          joint_moves m.0 n.0 m.1 n.1 n.2

  -- where no internal event can take place, nothing urges one, and every slot ticks
  calm : T (not (alones? || joints?)) → ¬ Urges ms l s internal
  calm h (inl u) =
      let o = (sound u.i u.known).offers (get_or s u.i 0) u.by u.urges in
      T_not (alones? || joints?) h (or_l alones? joints? (some_below size alone? u.i u.known (moves_alone u.i u.by o.0 o.1 u.is)))
  calm h (inr u) =
      let o = (sound u.i u.known_i).offers (get_or s u.i 0) u.by_i u.urges_i in
      let p = (sound u.j u.known_j).offers (get_or s u.j 0) u.by_j u.urges_j in
      let met = moves_joint u.i u.j u.by_i u.by_j o.0 p.0 u.apart o.1 p.1 u.meet in
      T_not (alones? || joints?) h (or_r alones? joints? (some_below size (λ i. below size (joint? i)) u.i u.known_i (some_below size (joint? u.i) u.j u.known_j met)))

  slot_tick : T (not (alones? || joints?)) → (i : ℕ) → i < size → (d : ℕ) × ((state (inside ms l i) (get_or s i 0)).tick ≡ Some d)
  slot_tick h i k = go (ticks_or_moves (inside ms l i) (sound i k) (get_or s i 0) (standing.there i k))
    where
      go : ((d : ℕ) × ((state (inside ms l i) (get_or s i 0)).tick ≡ Some d)) ⊎ ((d : ℕ) × (move internal d ∈ moves i)) → (d : ℕ) × ((state (inside ms l i) (get_or s i 0)).tick ≡ Some d)
      go (inl t) = t
      go (inr m) = absurd (T_not (alones? || joints?) h (or_l alones? joints? (some_below size alone? i k (moves_alone i internal m.0 m.1 refl))))

  goes_on : ((t : List ℕ) × Ticking ms l s t) ⊎ Inner
  goes_on = go (T_either (alones? || joints?))
    where
      go : T (alones? || joints?) ⊎ T (not (alones? || joints?)) → ((t : List ℕ) × Ticking ms l s t) ⊎ Inner
      go (inl h) = inr (found h)
      go (inr h) = inl (ticked ms l s (slot_tick h) (calm h))

pub never_stands : (ms : Catalogue) → Lawful ms → (l : Line) → ((i : ℕ) → i < length l.slots → (slot l i).holds < length ms) → ¬ Hidden l internal → NeverStands (line_running ms l)
never_stands ms lawful l known open' s standing = goes_on ms lawful l known open' s standing
