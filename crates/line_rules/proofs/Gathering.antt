-- The urgent set of a line, gathered slot by slot, and then what is hidden dropped. Assumes nothing.
use Rattle.std.proofs.Common.{◌≡◌, ℕ, ◌+◌, Bool, true, false, not, ◌&&◌, ◌||◌, T, ◌⊎◌, List, [], ◌∷◌, length, ℤ, nat_abs, sym, refl, ap, ◌∙◌, subst, inl, inr, add-one, le→leb}
use Rattle.action.specs.Lists.{◌∈◌, any, kept, below}
use Rattle.action.specs.Action.{internal, Opposite, is_action, same, last_port}
use Rattle.action.specs.declared.set.ActionSet.{ActionSet}
use Rattle.action.specs.Sets.{has, ◌∋◌, meets, members, actions}
use Rattle.action.proofs.Basics.{and_l, and_r, and_i, or_cases, or_l, or_r, any_some, some_any, kept_in, T_true}
use Rattle.action.proofs.Sets.{same_eq, same_refl, eq_same, has_near, set_passes, passes_set, set_ext}
use Rattle.action.proofs.Relations.{both_true, in_actions, meets_met, met_meets}
use Rattle.catalogue.specs.Catalogue.{Catalogue}
use Rattle.pair_table.proofs.Compose.{below_some, some_below}
use Rattle.line_rules.specs.Line.{Line, hides}
use Rattle.line_rules.specs.Time.{held, urged, clash, gathers, urgents}

-- the set holds what the first i slots urge, and the internal event where two of them meet
abbrev pub Gathered : Catalogue → Line → List ℕ → ℕ → ActionSet → Type 0
Gathered ms l s i set = (a : ℤ) → has set a ≡ gathers ms l s i a

module _ (ms : Catalogue) (l : Line) (s : List ℕ) (i : ℕ) (set : ActionSet) (inv : Gathered ms l s i set) where
  abbrev here : ActionSet
  here = held ms l s i

  -- what was gathered meets the next slot just where an earlier slot does
  met_earlier : meets set here ≡ below i (λ j. meets (held ms l s j) here)
  met_earlier = both_true (meets set here) (below i (λ j. meets (held ms l s j) here)) there back
    where
      there : T (meets set here) → T (below i (λ j. meets (held ms l s j) here))
      there t =
          let m = meets_met set here t in
          go m.0 m.1 m.2 m.4 (or_cases (urged ms l s i m.0) (same m.0 internal && clash ms l s i) (subst T (inv m.0) m.3))
        where
          go : (a b : ℤ) → Opposite a b → here ∋ b → T (urged ms l s i a) ⊎ T (same a internal && clash ms l s i) → T (below i (λ j. meets (held ms l s j) here))
          go a b o u (inl h) =
              let w = below_some i (λ j. has (held ms l s j) a) h in
              some_below i (λ j. meets (held ms l s j) here) w.0 w.1 (met_meets (held ms l s w.0) here (a, b, o, w.2, u))
          go a b o u (inr h) = absurd (o.signal (same_eq a internal (and_l (same a internal) (clash ms l s i) h)))

      back : T (below i (λ j. meets (held ms l s j) here)) → T (meets set here)
      back t =
          let w = below_some i (λ j. meets (held ms l s j) here) t in
          let m = meets_met (held ms l s w.0) here w.2 in
          met_meets set here (m.0, m.1, m.2, subst T (sym (inv m.0)) (or_l (urged ms l s i m.0) (same m.0 internal && clash ms l s i) (some_below i (λ j. has (held ms l s j) m.0) w.0 w.1 m.3)), m.4)

  -- one slot more: 0 is added where it meets, and then what it urges
  sorted : (u h e m c : Bool) → (((u || (e && c)) || (m && e)) || h) ≡ ((h || u) || (e && (m || c)))
  sorted true true e m c = refl
  sorted true false e m c = refl
  sorted false true true true true = refl
  sorted false true true true false = refl
  sorted false true true false true = refl
  sorted false true true false false = refl
  sorted false true false true c = refl
  sorted false true false false c = refl
  sorted false false true true true = refl
  sorted false false true true false = refl
  sorted false false true false true = refl
  sorted false false true false false = refl
  sorted false false false true c = refl
  sorted false false false false c = refl

  pub gathered_more : (met more : ActionSet) → ((a : ℤ) → has met a ≡ (has set a || (meets set here && same a internal))) → ((a : ℤ) → has more a ≡ (has met a || has here a)) → Gathered ms l s (i + 1) more
  gathered_more met more p q a =
      q a
      ∙ ap (λ b. b || has here a) (p a ∙ ap (λ b. b || (meets set here && same a internal)) (inv a))
      ∙ sorted (urged ms l s i a) (has here a) (same a internal) (meets set here) (clash ms l s i)
      ∙ ap (λ b. (has here a || urged ms l s i a) || (same a internal && (b || clash ms l s i))) met_earlier
      ∙ sym (ap (λ k. gathers ms l s k a) (add-one i))

-- the internal event is added where the two sets meet
pub met_then : (set met next : ActionSet) → meets set next ≡ true → ((a : ℤ) → has met a ≡ (has set a || (is_action internal && same internal a))) → (a : ℤ) → has met a ≡ (has set a || (meets set next && same a internal))
met_then set met next m h a =
    h a
    ∙ ap (λ b. has set a || b) (both_true (same internal a) (same a internal) (λ t. eq_same a internal (sym (same_eq internal a t))) (λ t. eq_same internal a (sym (same_eq a internal t))))
    ∙ sym (ap (λ b. has set a || (b && same a internal)) m)

pub met_else : (set next : ActionSet) → meets set next ≡ false → (a : ℤ) → has set a ≡ (has set a || (meets set next && same a internal))
met_else set next m a = plain (has set a) ∙ sym (ap (λ b. has set a || (b && same a internal)) m)
  where
    plain : (b : Bool) → b ≡ (b || false)
    plain true = refl
    plain false = refl

-- ── dropping what is hidden ──

abbrev visible : Line → ℤ → Bool
visible l a = is_action a && not (hides l a)

-- a is in what was let through, or is still to come and not hidden
abbrev pub lets : Line → ActionSet → List ℤ → ℤ → Bool
lets l out rest a = has out a || (visible l a && any (λ b. same b a) rest)

module _ (l : Line) (out : ActionSet) (b : ℤ) (all rest : List ℤ) (e : all ≡ b ∷ rest) where
  abbrev later : ℤ → Bool
  later a = any (λ c. same c a) rest

  -- a hidden action is passed over
  pub lets_hidden : hides l b ≡ true → (a : ℤ) → lets l out rest a ≡ lets l out all a
  lets_hidden h a = ap (λ t. has out a || t) (both_true (visible l a && later a) (visible l a && (same b a || later a)) there back) ∙ sym (ap (λ xs. lets l out xs a) e)
    where
      there : T (visible l a && later a) → T (visible l a && (same b a || later a))
      there t = and_i (visible l a) (same b a || later a) (and_l (visible l a) (later a) t) (or_r (same b a) (later a) (and_r (visible l a) (later a) t))

      back : T (visible l a && (same b a || later a)) → T (visible l a && later a)
      back t = go (or_cases (same b a) (later a) (and_r (visible l a) (same b a || later a) t))
        where
          seen : T (visible l a)
          seen = and_l (visible l a) (same b a || later a) t

          go : T (same b a) ⊎ T (later a) → T (visible l a && later a)
          go (inl q) = absurd (subst (λ x. T (not x)) (ap (hides l) (sym (same_eq b a q)) ∙ h) (and_r (is_action a) (not (hides l a)) seen))
          go (inr q) = and_i (visible l a) (later a) seen q

  -- another is let through
  pub lets_through : (more : ActionSet) → hides l b ≡ false → ((a : ℤ) → has more a ≡ (has out a || (is_action b && same b a))) → (a : ℤ) → lets l more rest a ≡ lets l out all a
  lets_through more h ins a =
      ap (λ t. t || (visible l a && later a)) (ins a ∙ ap (λ t. has out a || t) named)
      ∙ regroup (has out a) (visible l a) (same b a) (later a)
      ∙ sym (ap (λ xs. lets l out xs a) e)
    where
      named : (is_action b && same b a) ≡ (visible l a && same b a)
      named = both_true (is_action b && same b a) (visible l a && same b a)
          (λ t. (let q = and_r (is_action b) (same b a) t in and_i (visible l a) (same b a) (and_i (is_action a) (not (hides l a)) (subst (λ x. T (is_action x)) (same_eq b a q) (and_l (is_action b) (same b a) t)) (subst (λ x. T (not x)) (sym (ap (hides l) (sym (same_eq b a q)) ∙ h)) tt)) q))
          (λ t. (let q = and_r (visible l a) (same b a) t in and_i (is_action b) (same b a) (subst (λ x. T (is_action x)) (sym (same_eq b a q)) (and_l (is_action a) (not (hides l a)) (and_l (visible l a) (same b a) t))) q))

      regroup : (o n x y : Bool) → ((o || (n && x)) || (n && y)) ≡ (o || (n && (x || y)))
      regroup true n x y = refl
      regroup false true x y = refl
      regroup false false x y = refl

-- an action is among the members of a set just where the set has it
member_has : (set : ActionSet) (a : ℤ) → T (any (λ b. same b a) (members set)) → T (has set a)
unfolding members
member_has set a t =
    let w = any_some (λ b. same b a) (kept (has set) actions) t in
    subst (λ x. T (has set x)) (same_eq w.0 a w.2) (passes (has set) actions w.0 w.1)
  where
    passes : (f : ℤ → Bool) (xs : List ℤ) (x : ℤ) → x ∈ kept f xs → T (f x)
    passes f [] x i = absurd i
    passes f (y ∷ ys) x i = go (f y) refl i (passes f ys x)
      where
        go : (b : Bool) → f y ≡ b → ◌∈◌ {A = ℤ} x (elim b [ true ↦ y ∷ kept f ys | false ↦ kept f ys ]) → (x ∈ kept f ys → T (f x)) → T (f x)
        go true q (inl p) rec = subst (λ z. T (f z)) (sym p) (T_true (f y) q)
        go true q (inr k) rec = rec k
        go false q k rec = rec k

has_member : (set : ActionSet) (a : ℤ) → T (has set a) → T (any (λ b. same b a) (members set))
unfolding members
has_member set a t = some_any (λ b. same b a) (kept (has set) actions) a (kept_in (has set) actions a (in_actions a (has_near set a t)) t) (same_refl a)

-- all actions of a set are let through that are not hidden
pub lets_all : (l : Line) (set start out : ActionSet) → ((a : ℤ) → has start a ≡ false) → ((a : ℤ) → lets l out [] a ≡ lets l start (members set) a) → (a : ℤ) → has out a ≡ (not (hides l a) && has set a)
lets_all l set start out none h a =
    plain (has out a) (visible l a) ∙ h a ∙ ap (λ b. b || (visible l a && any (λ c. same c a) (members set))) (none a)
    ∙ both_true (visible l a && any (λ c. same c a) (members set)) (not (hides l a) && has set a)
    (λ t. and_i (not (hides l a)) (has set a) (and_r (is_action a) (not (hides l a)) (and_l (visible l a) (any (λ c. same c a) (members set)) t)) (member_has set a (and_r (visible l a) (any (λ c. same c a) (members set)) t)))
    (λ t. (let i = and_r (not (hides l a)) (has set a) t in and_i (visible l a) (any (λ c. same c a) (members set)) (and_i (is_action a) (not (hides l a)) (le→leb (nat_abs a) last_port (has_near set a i)) (and_l (not (hides l a)) (has set a) t)) (has_member set a i)))
  where
    plain : (b c : Bool) → b ≡ (b || (c && false))
    plain true c = refl
    plain false true = refl
    plain false false = refl

-- so the urgent set is left
pub urgents_is : (ms : Catalogue) (l : Line) (s : List ℕ) (set out : ActionSet) → Gathered ms l s (length l.slots) set → ((a : ℤ) → has out a ≡ (not (hides l a) && has set a)) → out ≡ urgents ms l s
unfolding urgents
urgents_is ms l s set out inv h = set_ext out (urgents ms l s) (λ a. both_true (has out a) (has (urgents ms l s) a) (there a) (back a))
  where
    is : (a : ℤ) → has out a ≡ (not (hides l a) && gathers ms l s (length l.slots) a)
    is a = h a ∙ ap (λ b. not (hides l a) && b) (inv a)

    there : (a : ℤ) → T (has out a) → T (has (urgents ms l s) a)
    there a t = passes_set (λ b. not (hides l b) && gathers ms l s (length l.slots) b) a (has_near out a t) (subst T (is a) t)

    back : (a : ℤ) → T (has (urgents ms l s) a) → T (has out a)
    back a t = subst T (sym (is a)) (set_passes (λ b. not (hides l b) && gathers ms l s (length l.slots) b) a t)
