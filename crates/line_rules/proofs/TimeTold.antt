-- The answers to the time question say what the line's urgent set and ticks are. Assumes nothing.
use Rattle.std.proofs.Common.{◌≡◌, ℕ, zero, suc, ◌<◌, ◌≤◌, Bool, true, not, ◌&&◌, T, eqb, ◌⊎◌, ◌↔◌, List, length, get_or, ℤ, pos, negsuc, neg_ℤ, is_some, Some, None, Option, sym, refl, ap, ◌∙◌, subst, inl, inr, arith, eqb→eq, ltb→lt, T_not}
use lib.Dec.{not_T}
use Rattle.std.proofs.lemmas.Bool.{cases_lt}
use Rattle.action.specs.Lists.{below, every}
use Rattle.action.specs.Action.{internal, Opposite, same}
use Rattle.action.specs.declared.set.ActionSet.{ActionSet}
use Rattle.action.specs.Sets.{has, ◌∋◌, meets}
use Rattle.action.proofs.Basics.{and_l, and_r, and_i, or_cases, or_l, or_r}
use Rattle.action.proofs.Sets.{same_eq, has_near, set_passes, passes_set}
use Rattle.action.proofs.Relations.{meets_met, met_meets}
use Rattle.renaming.specs.Renaming.{full}
use Rattle.renaming.proofs.Laws.{image_has, has_image}
use Rattle.catalogue.specs.Catalogue.{Catalogue, state}
use Rattle.pair_table.proofs.Compose.{below_some, some_below}
use Rattle.line_rules.specs.Line.{Line, slot, inside, outward, hides, Hidden, Standing, UrgentAlone, UrgentJoint, Urges, Ticking}
use Rattle.line_rules.specs.Time.{held, urged, clash, gathers, urgents, slot_ticks, ticks, has_code, stands, Tells}
use Rattle.line_rules.proofs.Slots.{every_at, at_every}
use Rattle.line_rules.proofs.Ticked.{ticked}

neg_neg : (a : ℤ) → a ≡ neg_ℤ (neg_ℤ a)
neg_neg (pos zero) = refl
neg_neg (pos (suc n)) = refl
neg_neg (negsuc n) = refl

pub opposite_back : (a b : ℤ) → Opposite a b → Opposite b a
opposite_back a b o = record { signal = λ e. o.signal (neg_neg a ∙ ap neg_ℤ (sym o.turned ∙ e)); turned = neg_neg a ∙ ap neg_ℤ (sym o.turned) }

alike : (a b x y : ℤ) → a ≡ x → b ≡ y → Opposite x y → Opposite a b
alike a b x y p q o = subst (λ z. Opposite a z) (sym q) (subst (λ z. Opposite z y) (sym p) o)

some_tick : (o : Option ℕ) → T (is_some o) → (d : ℕ) × (o ≡ Some d)
some_tick None h = absurd h
some_tick (Some d) h = (d, refl)

module _ (ms : Catalogue) (l : Line) (wired : (i : ℕ) → i < length l.slots → full (slot l i).wiring ≡ true) (open' : ¬ Hidden l internal) (s : List ℕ) where
  abbrev size : ℕ
  size = length l.slots

  abbrev set_at : ℕ → ActionSet
  set_at i = (state (inside ms l i) (get_or s i 0)).urgent

  abbrev holds : ℕ → ActionSet
  holds i = held ms l s i

  -- two of the first slots that meet, the one before the other
  abbrev meets_at : ℕ → ℕ → Bool
  meets_at i j = meets (holds j) (holds i)

  held_by : (i : ℕ) → i < size → (b : ℤ) → set_at i ∋ b → holds i ∋ outward l i b
  held_by i k b u = has_image (slot l i).wiring (wired i k) (set_at i) b u

  alone : (a : ℤ) → ¬ Hidden l a → T (urged ms l s size a) → UrgentAlone ms l s a
  alone a seen h =
      let m = below_some size (λ i. has (holds i) a) h in
      let b = image_has (slot l m.0).wiring (set_at m.0) a m.2 in
      record { i = m.0; by = b.0; known = m.1; urges = b.1; is = sym b.2; seen = seen }

  joint : (a : ℤ) → T (same a internal && clash ms l s size) → UrgentJoint ms l s a
  joint a h =
      let m = below_some size (λ i. below i (meets_at i)) (and_r (same a internal) (clash ms l s size) h) in
      let n = below_some m.0 (meets_at m.0) m.2 in
      let x = meets_met (holds n.0) (holds m.0) n.2 in
      let b = image_has (slot l n.0).wiring (set_at n.0) x.0 x.3 in
      let c = image_has (slot l m.0).wiring (set_at m.0) x.1 x.4 in
      let high = m.1 in
      let low = n.1 in
      record {
        i = n.0;
        j = m.0;
        by_i = b.0;
        by_j = c.0;
        known_i = omega arith;
        known_j = high;
        apart = λ e. omega arith;
        urges_i = b.1;
        urges_j = c.1;
        meet = alike (outward l n.0 b.0) (outward l m.0 c.0) x.0 x.1 b.2 c.2 x.2;
        is = same_eq a internal (and_l (same a internal) (clash ms l s size) h);
      }

  met_at : (i j : ℕ) → i < size → j < i → (b c : ℤ) → set_at j ∋ b → set_at i ∋ c → Opposite (outward l j b) (outward l i c) → T (clash ms l s size)
  met_at i j k m b c u v o =
      some_below size (λ x. below x (meets_at x)) i k
      (some_below i (meets_at i) j m (met_meets (holds j) (holds i) (outward l j b, outward l i c, o, held_by j (omega arith) b u, held_by i k c v)))

  clashes : (a : ℤ) → UrgentJoint ms l s a → T (clash ms l s size)
  clashes a u = go (cases_lt u.i u.j)
    where
      apart : u.j ≤ u.i → u.j < u.i
      apart h = elim (cases_lt u.j u.i) [ inl k ↦ k | inr k ↦ absurd (u.apart (omega arith)) ]

      go : (u.i < u.j) ⊎ (u.j ≤ u.i) → T (clash ms l s size)
      go (inl k) = met_at u.j u.i u.known_j k u.by_i u.by_j u.urges_i u.urges_j u.meet
      go (inr k) = met_at u.i u.j u.known_i (apart k) u.by_j u.by_i u.urges_j u.urges_i (opposite_back (outward l u.i u.by_i) (outward l u.j u.by_j) u.meet)

  abbrev passes : ℤ → Bool
  passes a = not (hides l a) && gathers ms l s size a

  told : (a : ℤ) → urgents ms l s ∋ a → Urges ms l s a
  unfolding urgents
  told a h = go (or_cases (urged ms l s size a) (same a internal && clash ms l s size) (and_r (not (hides l a)) (gathers ms l s size a) (set_passes passes a h)))
    where
      go : T (urged ms l s size a) ⊎ T (same a internal && clash ms l s size) → Urges ms l s a
      go (inl u) = inl (alone a (T_not (hides l a) (and_l (not (hides l a)) (gathers ms l s size a) (set_passes passes a h))) u)
      go (inr u) = inr (joint a u)

  tell : (a : ℤ) → Urges ms l s a → urgents ms l s ∋ a
  unfolding urgents
  tell a (inl u) =
      let here : holds u.i ∋ a = subst (λ z. holds u.i ∋ z) (sym u.is) (held_by u.i u.known u.by u.urges) in
      passes_set passes a (has_near (holds u.i) a here)
      (and_i (not (hides l a)) (gathers ms l s size a) (not_T (hides l a) u.seen) (or_l (urged ms l s size a) (same a internal && clash ms l s size) (some_below size (λ i. has (holds i) a) u.i u.known here)))
  tell a (inr u) = subst (λ z. urgents ms l s ∋ z) (sym u.is)
      (passes_set passes internal (omega arith)
      (and_i (not (hides l internal)) (gathers ms l s size internal) (not_T (hides l internal) open') (or_r (urged ms l s size internal) (same internal internal && clash ms l s size) (and_i (same internal internal) (clash ms l s size) tt (clashes a u)))))

  pub urged_is : (a : ℤ) → (urgents ms l s ∋ a) ↔ Urges ms l s a
  urged_is a = (told a, tell a)

  abbrev all_tick : Bool
  all_tick = every size (slot_ticks ms l s)

  abbrev calm : Bool
  calm = not (has (urgents ms l s) internal)

  passing : T (all_tick && calm) → (t : List ℕ) × Ticking ms l s t
  passing h = ticked ms l s (λ i k. some_tick (state (inside ms l i) (get_or s i 0)).tick (every_at size (slot_ticks ms l s) (and_l all_tick calm h) i k)) (λ u. T_not (has (urgents ms l s) internal) (and_r all_tick calm h) (tell internal u))

  passes_on : (t : List ℕ) × Ticking ms l s t → T (all_tick && calm)
  passes_on k =
      and_i all_tick calm (at_every size (slot_ticks ms l s) (λ i h. subst (λ o. T (is_some o)) (sym (k.1.slots i h)) tt))
      (not_T (has (urgents ms l s) internal) (λ t. k.1.calm (told internal t)))

  standing : T (stands ms l s) → Standing ms l s
  unfolding stands
  standing h = record {
    wide = eqb→eq (length s) size (and_l (eqb (length s) size) (every size (has_code ms l s)) h);
    there = λ i k. ltb→lt (get_or s i 0) (length (inside ms l i).states) (every_at size (has_code ms l s) (and_r (eqb (length s) size) (every size (has_code ms l s)) h) i k);
  }

  pub tells : T (stands ms l s) → Tells ms l s (record { ticks = ticks ms l s; urgent = urgents ms l s })
  unfolding ticks
  tells h = record { standing = standing h; urgent = urged_is; time = (passing, passes_on) }
