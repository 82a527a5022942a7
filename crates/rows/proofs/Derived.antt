-- What the places of a module have is what the rules derive for their terms. Assumes nothing.
use Rattle.std.proofs.Common.{◌≡◌, ℕ, zero, suc, ◌<◌, ◌≤◌, true, ◌||◌, T, ltb, ◌⊎◌, List, ◌++◌, length, ℤ, nat_abs, sym, refl, ap, subst, inl, inr, arith}
use Rattle.std.proofs.lemmas.Bool.{leb-true, ltb-true}
use Rattle.catalogue.specs.declared.Move.{Move}
use Rattle.action.specs.Lists.{◌∈◌}
use Rattle.action.specs.Action.{internal, last_port}
use Rattle.action.specs.Sets.{◌∋◌}
use Rattle.catalogue.specs.Catalogue.{move}
use Rattle.action.proofs.Basics.{in_left, in_right, in_cases, or_cases, or_l, or_r}
use Rattle.action.proofs.Sets.{same_eq, eq_same, set_passes, passes_set}
use Rattle.rows.specs.declared.row.Place.{Place}
use Rattle.rows.specs.declared.row.Place.TheVariants.{Nil, Act, Wait, Sum, Name}
use Rattle.rows.specs.Places.{code, row, ends_by, depth_by, moves_by, urgent_by, ends, depth_of, moves_of, is_urgent, urgent_of}
use Rattle.rows.specs.Opening.{inside, by_action, WellFormed}
use Rattle.rows.specs.Calculus.{Term, nil, act, wait, ◌⊕◌, name, Urgent, u_act, u_left, u_right, Moves, m_act, m_wait, m_left, m_right, Ticks, t_nil, t_act, t_wait, t_sum, equations, Residual, as_name, as_nil, as_act, as_wait, as_waited, as_sum, as_named}
use Rattle.rows.proofs.Fuel.{both_l, both_r, not_zero, ends_next, depth_rule, moves_rule, urgent_rule}
use Rattle.rows.proofs.Inversion.{m_not_nil, m_of_act, m_of_wait, m_of_sum, u_not_nil, u_not_wait, u_of_act, u_of_sum, t_of_nil, t_of_act, t_of_wait, t_of_sum, Shape, shape_of, seen}

module _ (ps : List Place) (ok : WellFormed ps) where
  abbrev E : ℕ → Term
  E = equations ps

  -- a follower is a place, and ends sooner
  abbrev pub Next : ℕ → ℕ → Type 0
  Next f j = (j < length ps) × (ends ps f j ≡ true)

  abbrev pub Nexts : ℕ → Place → Type 0
  Nexts f Nil = Unit {0}
  Nexts f (Act a j) = (j < length ps) × (nat_abs a ≤ last_port)
  Nexts f (Wait j) = Next f j
  Nexts f (Sum l r) = Next f l × Next f r
  Nexts f (Name j) = Next f j

  pub nexts : (f i : ℕ) → i < length ps → ends ps (suc f) i ≡ true → Nexts f (row ps i)
  nexts f i l e = go (row ps i) (ok.in_module i l) (ok.actions i l) (ends_next ps f i e)
    where
      go : (p : Place) → inside (length ps) p ≡ true → by_action p ≡ true → ends_by p (λ j. ends ps f j) ≡ true → Nexts f p
      go Nil h b u = tt
      go (Act a j) h b u = (ltb-true j (length ps) h, leb-true (nat_abs a) last_port b)
      go (Wait j) h b u = (ltb-true j (length ps) h, u)
      go (Sum m n) h b u = ((ltb-true m (length ps) (both_l (ltb m (length ps)) (ltb n (length ps)) h), both_l (ends ps f m) (ends ps f n) u), (ltb-true n (length ps) (both_r (ltb m (length ps)) (ltb n (length ps)) h), both_r (ends ps f m) (ends ps f n) u))
      go (Name j) h b u = (ltb-true j (length ps) h, u)

  pub moves_is : (i : ℕ) → i < length ps → moves_of ps i ≡ moves_by (row ps i) (λ j. moves_of ps j)
  moves_is i l = moves_rule ps (length ps) i (ok.no_return i l)

  pub depth_is : (i : ℕ) → i < length ps → depth_of ps i ≡ depth_by (row ps i) (λ j. depth_of ps j)
  depth_is i l = depth_rule ps (length ps) i (ok.no_return i l)

  pub urgent_is : (i k : ℕ) (a : ℤ) → i < length ps → is_urgent ps i k a ≡ urgent_by (row ps i) k a (λ j n. is_urgent ps j n a)
  urgent_is i k a l = urgent_rule ps (length ps) i k a (ok.no_return i l)

  -- ── moves ──

  abbrev Led : Term → ℤ → List Move → Type 0
  Led Q a ms = (j : ℕ) × (j < length ps) × (Q ≡ name j) × (move a (code j 0) ∈ ms)

  led_by : (f i k : ℕ) (P : Term) (a : ℤ) (Q : Term) → i < length ps → ends ps f i ≡ true → Residual ps P i k → Moves E P a Q → Led Q a (moves_of ps i)
  led_by zero i k P a Q l e s d = absurd (not_zero ps i e)
  led_by (suc f) i k P a Q l e s d =
      let v = seen ps P i k s in
      subst (λ ms. Led Q a ms) (sym (moves_is i l)) (go (row ps i) k v.term (nexts f i l e) v.shape (v.m_to a Q d) (λ j n R. led_by f j n R a Q))
    where
      go : (p : Place) (n : ℕ) (X : Term) → Nexts f p → Shape ps p n X → Moves E X a Q → ((j n : ℕ) (R : Term) → j < length ps → ends ps f j ≡ true → Residual ps R j n → Moves E R a Q → Led Q a (moves_of ps j)) → Led Q a (moves_by p (λ j. moves_of ps j))
      go Nil n X h w t rec = absurd (m_not_nil E (subst (λ Y. Moves E Y a Q) w t))
      go (Act b j) n X h w t rec = let c = m_of_act E (subst (λ Y. Moves E Y a Q) w t) in (j, h.0, c.1, inl (ap (λ x. move x (code j 0)) c.0))
      go (Wait j) zero X h w t rec = rec j 0 (name j) h.0 h.1 as_name (m_of_wait E (subst (λ Y. Moves E Y a Q) w t))
      go (Wait j) (suc n) X h w t rec = rec j n X h.0 h.1 w t
      go (Sum m o) n X h w t rec = side (m_of_sum E (subst (λ Y. Moves E Y a Q) w.2 t))
        where
          side : Moves E w.0 a Q ⊎ Moves E w.1 a Q → Led Q a (moves_of ps m ++ moves_of ps o)
          side (inl x) = let r = rec m n w.0 h.0.0 h.0.1 w.3 x in (r.0, r.1, r.2, in_left (moves_of ps m) (moves_of ps o) (move a (code r.0 0)) r.3)
          side (inr x) = let r = rec o n w.1 h.1.0 h.1.1 w.4 x in (r.0, r.1, r.2, in_right (moves_of ps m) (moves_of ps o) (move a (code r.0 0)) r.3)
      go (Name j) n X h w t rec = rec j n X h.0 h.1 w t

  abbrev Leads : Term → ℤ → ℕ → Type 0
  Leads P a d = (j : ℕ) × (j < length ps) × (d ≡ code j 0) × Moves E P a (name j) × (nat_abs a ≤ last_port)

  leads_by : (f i k : ℕ) (P : Term) (a : ℤ) (d : ℕ) → i < length ps → ends ps f i ≡ true → Residual ps P i k → move a d ∈ moves_of ps i → Leads P a d
  leads_by zero i k P a d l e s m = absurd (not_zero ps i e)
  leads_by (suc f) i k P a d l e s m =
      let v = seen ps P i k s in
      let r = go (row ps i) k v.term (nexts f i l e) v.shape (subst (λ ms. move a d ∈ ms) (moves_is i l) m) (λ j n R. leads_by f j n R a d) in
      (r.0, r.1, r.2, v.m_from a (name r.0) r.3, r.4)
    where
      go : (p : Place) (n : ℕ) (X : Term) → Nexts f p → Shape ps p n X → move a d ∈ moves_by p (λ j. moves_of ps j) → ((j n : ℕ) (R : Term) → j < length ps → ends ps f j ≡ true → Residual ps R j n → move a d ∈ moves_of ps j → Leads R a d) → Leads X a d
      go Nil n X h w t rec = absurd t
      go (Act b j) n X h w (inl t) rec =
          let x : a ≡ b = ap (λ (z : Move). z.action) t in
          let y : d ≡ code j 0 = ap (λ (z : Move). z.target) t in
          (j, h.0, y, subst (λ Y. Moves E Y a (name j)) (sym w) (subst (λ z. Moves E (act b (name j)) z (name j)) (sym x) m_act), subst (λ z. nat_abs z ≤ last_port) (sym x) h.1)
      go (Act b j) n X h w (inr t) rec = absurd t
      go (Wait j) zero X h w t rec = let r = rec j 0 (name j) h.0 h.1 as_name t in (r.0, r.1, r.2, subst (λ Y. Moves E Y a (name r.0)) (sym w) (m_wait r.3), r.4)
      go (Wait j) (suc n) X h w t rec = rec j n X h.0 h.1 w t
      go (Sum m o) n X h w t rec = side (in_cases (moves_of ps m) (moves_of ps o) (move a d) t)
        where
          side : (move a d ∈ moves_of ps m) ⊎ (move a d ∈ moves_of ps o) → Leads X a d
          side (inl x) = let r = rec m n w.0 h.0.0 h.0.1 w.3 x in (r.0, r.1, r.2, subst (λ Y. Moves E Y a (name r.0)) (sym w.2) (m_left r.3), r.4)
          side (inr x) = let r = rec o n w.1 h.1.0 h.1.1 w.4 x in (r.0, r.1, r.2, subst (λ Y. Moves E Y a (name r.0)) (sym w.2) (m_right r.3), r.4)
      go (Name j) n X h w t rec = rec j n X h.0 h.1 w t

  -- ── urgent actions ──

  urged_by : (f i k : ℕ) (P : Term) (a : ℤ) → i < length ps → ends ps f i ≡ true → Residual ps P i k → Urgent E P a → T (is_urgent ps i k a) × (nat_abs a ≤ last_port)
  urged_by zero i k P a l e s u = absurd (not_zero ps i e)
  urged_by (suc f) i k P a l e s u =
      let v = seen ps P i k s in
      let r = go (row ps i) k v.term (nexts f i l e) v.shape (v.u_to a u) (λ j n R. urged_by f j n R a) in
      (subst T (sym (urgent_is i k a l)) r.0, r.1)
    where
      go : (p : Place) (n : ℕ) (X : Term) → Nexts f p → Shape ps p n X → Urgent E X a → ((j n : ℕ) (R : Term) → j < length ps → ends ps f j ≡ true → Residual ps R j n → Urgent E R a → T (is_urgent ps j n a) × (nat_abs a ≤ last_port)) → T (urgent_by p n a (λ j n. is_urgent ps j n a)) × (nat_abs a ≤ last_port)
      go Nil n X h w t rec = absurd (u_not_nil E (subst (λ Y. Urgent E Y a) w t))
      go (Act b j) n X h w t rec = let q = u_of_act E (subst (λ Y. Urgent E Y a) w t) in (eq_same b a (sym q), subst (λ x. nat_abs x ≤ last_port) (sym q) h.1)
      go (Wait j) zero X h w t rec = absurd (u_not_wait E (subst (λ Y. Urgent E Y a) w t))
      go (Wait j) (suc n) X h w t rec = rec j n X h.0 h.1 w t
      go (Sum m o) n X h w t rec = side (u_of_sum E (subst (λ Y. Urgent E Y a) w.2 t))
        where
          side : Urgent E w.0 a ⊎ Urgent E w.1 a → T (is_urgent ps m n a || is_urgent ps o n a) × (nat_abs a ≤ last_port)
          side (inl x) = let r = rec m n w.0 h.0.0 h.0.1 w.3 x in (or_l (is_urgent ps m n a) (is_urgent ps o n a) r.0, r.1)
          side (inr x) = let r = rec o n w.1 h.1.0 h.1.1 w.4 x in (or_r (is_urgent ps m n a) (is_urgent ps o n a) r.0, r.1)
      go (Name j) n X h w t rec = rec j n X h.0 h.1 w t

  urges_by : (f i k : ℕ) (P : Term) (a : ℤ) → i < length ps → ends ps f i ≡ true → Residual ps P i k → T (is_urgent ps i k a) → Urgent E P a
  urges_by zero i k P a l e s u = absurd (not_zero ps i e)
  urges_by (suc f) i k P a l e s u =
      let v = seen ps P i k s in
      v.u_from a (go (row ps i) k v.term (nexts f i l e) v.shape (subst T (urgent_is i k a l) u) (λ j n R. urges_by f j n R a))
    where
      go : (p : Place) (n : ℕ) (X : Term) → Nexts f p → Shape ps p n X → T (urgent_by p n a (λ j n. is_urgent ps j n a)) → ((j n : ℕ) (R : Term) → j < length ps → ends ps f j ≡ true → Residual ps R j n → T (is_urgent ps j n a) → Urgent E R a) → Urgent E X a
      go Nil n X h w t rec = absurd t
      go (Act b j) n X h w t rec = subst (λ Y. Urgent E Y a) (sym w) (subst (λ x. Urgent E (act b (name j)) x) (same_eq b a t) u_act)
      go (Wait j) zero X h w t rec = absurd t
      go (Wait j) (suc n) X h w t rec = rec j n X h.0 h.1 w t
      go (Sum m o) n X h w t rec = side (or_cases (is_urgent ps m n a) (is_urgent ps o n a) t)
        where
          side : T (is_urgent ps m n a) ⊎ T (is_urgent ps o n a) → Urgent E X a
          side (inl x) = subst (λ Y. Urgent E Y a) (sym w.2) (u_left (rec m n w.0 h.0.0 h.0.1 w.3 x))
          side (inr x) = subst (λ Y. Urgent E Y a) (sym w.2) (u_right (rec o n w.1 h.1.0 h.1.1 w.4 x))
      go (Name j) n X h w t rec = rec j n X h.0 h.1 w t

  -- ── ticks ──

  abbrev Idle : ℕ → ℕ → Type 0
  Idle i k = T (is_urgent ps i k internal) → ⊥

  -- a tick makes the place older by one, and nothing internal is urgent before it
  ticked_by : (f i k : ℕ) (P Q : Term) → i < length ps → ends ps f i ≡ true → Residual ps P i k → Ticks E P Q → Residual ps Q i (suc k) × Idle i k
  ticked_by zero i k P Q l e s t = absurd (not_zero ps i e)
  ticked_by (suc f) i k P Q l e s t =
      let v = seen ps P i k s in
      let r = go (row ps i) k v.term Q refl (nexts f i l e) v.shape (v.t_to Q t) (λ j n R S. ticked_by f j n R S) in
      (r.0, λ u. r.1 (subst T (urgent_is i k internal l) u))
    where
      go : (p : Place) (n : ℕ) (X Z : Term) → row ps i ≡ p → Nexts f p → Shape ps p n X → Ticks E X Z → ((j n : ℕ) (R S : Term) → j < length ps → ends ps f j ≡ true → Residual ps R j n → Ticks E R S → Residual ps S j (suc n) × Idle j n) → Residual ps Z i (suc n) × (T (urgent_by p n internal (λ j n. is_urgent ps j n internal)) → ⊥)
      go Nil n X Z q h w t rec = (subst (λ Y. Residual ps Y i (suc n)) (sym (t_of_nil E (subst (λ Y. Ticks E Y Z) w t))) (as_nil q), λ u. u)
      go (Act b j) n X Z q h w t rec = let c = t_of_act E (subst (λ Y. Ticks E Y Z) w t) in (subst (λ Y. Residual ps Y i (suc n)) (sym c.1) (as_act q), λ u. c.0 (same_eq b internal u))
      go (Wait j) zero X Z q h w t rec = (subst (λ Y. Residual ps Y i 1) (sym (t_of_wait E (subst (λ Y. Ticks E Y Z) w t))) (as_waited q as_name), λ u. u)
      go (Wait j) (suc n) X Z q h w t rec = let r = rec j n X Z h.0 h.1 w t in (as_waited q r.0, r.1)
      go (Sum m o) n X Z q h w t rec =
          let c = t_of_sum E (subst (λ Y. Ticks E Y Z) w.2 t) in
          let x = rec m n w.0 c.0 h.0.0 h.0.1 w.3 c.3 in
          let y = rec o n w.1 c.1 h.1.0 h.1.1 w.4 c.4 in
          (subst (λ Y. Residual ps Y i (suc n)) (sym c.2) (as_sum q x.0 y.0), λ u. side x.1 y.1 (or_cases (is_urgent ps m n internal) (is_urgent ps o n internal) u))
        where
          side : Idle m n → Idle o n → T (is_urgent ps m n internal) ⊎ T (is_urgent ps o n internal) → ⊥
          side x y (inl u) = x u
          side x y (inr u) = y u
      go (Name j) n X Z q h w t rec = let r = rec j n X Z h.0 h.1 w t in (as_named q r.0, r.1)

  -- where nothing internal is urgent there is a tick
  ticks_by : (f i k : ℕ) (P : Term) → i < length ps → ends ps f i ≡ true → Residual ps P i k → Idle i k → (Q : Term) × Ticks E P Q
  ticks_by zero i k P l e s u = absurd (not_zero ps i e)
  ticks_by (suc f) i k P l e s u =
      let v = seen ps P i k s in
      let r = go (row ps i) k v.term (nexts f i l e) v.shape (λ x. u (subst T (sym (urgent_is i k internal l)) x)) (λ j n R. ticks_by f j n R) in
      (r.0, v.t_from r.0 r.1)
    where
      go : (p : Place) (n : ℕ) (X : Term) → Nexts f p → Shape ps p n X → (T (urgent_by p n internal (λ j n. is_urgent ps j n internal)) → ⊥) → ((j n : ℕ) (R : Term) → j < length ps → ends ps f j ≡ true → Residual ps R j n → Idle j n → (S : Term) × Ticks E R S) → (Z : Term) × Ticks E X Z
      go Nil n X h w u rec = (nil, subst (λ Y. Ticks E Y nil) (sym w) t_nil)
      go (Act b j) n X h w u rec = (act b (name j), subst (λ Y. Ticks E Y (act b (name j))) (sym w) (t_act (λ q. u (eq_same b internal q))))
      go (Wait j) zero X h w u rec = (name j, subst (λ Y. Ticks E Y (name j)) (sym w) t_wait)
      go (Wait j) (suc n) X h w u rec = rec j n X h.0 h.1 w u
      go (Sum m o) n X h w u rec =
          let x = rec m n w.0 h.0.0 h.0.1 w.3 (λ z. u (or_l (is_urgent ps m n internal) (is_urgent ps o n internal) z)) in
          let y = rec o n w.1 h.1.0 h.1.1 w.4 (λ z. u (or_r (is_urgent ps m n internal) (is_urgent ps o n internal) z)) in
          (x.0 ⊕ y.0, subst (λ Y. Ticks E Y (x.0 ⊕ y.0)) (sym w.2) (t_sum x.1 y.1))
      go (Name j) n X h w u rec = rec j n X h.0 h.1 w u

  -- from its depth on a place grows no older
  settled_by : (f i k : ℕ) (P : Term) → i < length ps → ends ps f i ≡ true → depth_of ps i ≤ k → Residual ps P i (suc k) → Residual ps P i k
  settled_by zero i k P l e d s = absurd (not_zero ps i e)
  settled_by (suc f) i k P l e d s = view (shape_of ps s) (λ j n R. settled_by f j n R)
    where
      go : (p : Place) (n : ℕ) (X : Term) → row ps i ≡ p → Nexts f p → depth_by p (λ j. depth_of ps j) ≤ n → Shape ps p (suc n) X → ((j n : ℕ) (R : Term) → j < length ps → ends ps f j ≡ true → depth_of ps j ≤ n → Residual ps R j (suc n) → Residual ps R j n) → Residual ps X i n
      go Nil n X q h b w rec = subst (λ Y. Residual ps Y i n) (sym w) (as_nil q)
      go (Act a j) n X q h b w rec = subst (λ Y. Residual ps Y i n) (sym w) (as_act q)
      go (Wait j) zero X q h b w rec = absurd (omega arith)
      go (Wait j) (suc n) X q h b w rec = as_waited q (rec j n X h.0 h.1 (omega arith) w)
      go (Sum m o) n X q h b w rec = subst (λ Y. Residual ps Y i n) (sym w.2) (as_sum q (rec m n w.0 h.0.0 h.0.1 (omega arith) w.3) (rec o n w.1 h.1.0 h.1.1 (omega arith) w.4))
      go (Name j) n X q h b w rec = as_named q (rec j n X h.0 h.1 b w)

      view : ((P ≡ name i) × (suc k ≡ 0)) ⊎ Shape ps (row ps i) (suc k) P → ((j n : ℕ) (R : Term) → j < length ps → ends ps f j ≡ true → depth_of ps j ≤ n → Residual ps R j (suc n) → Residual ps R j n) → Residual ps P i k
      view (inl z) rec = absurd (let y = z.1 in omega arith)
      view (inr w) rec = go (row ps i) k P refl (nexts f i l e) (subst (λ x. x ≤ k) (depth_is i l) d) w rec

  -- every place has a residual at every age
  termed_by : (f i k : ℕ) → i < length ps → ends ps f i ≡ true → (P : Term) × Residual ps P i k
  termed_by zero i k l e = absurd (not_zero ps i e)
  termed_by (suc f) i k l e = go (row ps i) k refl (nexts f i l e) (λ j n. termed_by f j n)
    where
      go : (p : Place) (n : ℕ) → row ps i ≡ p → Nexts f p → ((j n : ℕ) → j < length ps → ends ps f j ≡ true → (P : Term) × Residual ps P j n) → (P : Term) × Residual ps P i n
      go Nil n q h rec = (nil, as_nil q)
      go (Act a j) n q h rec = (act a (name j), as_act q)
      go (Wait j) zero q h rec = (wait (name j), as_wait q)
      go (Wait j) (suc n) q h rec = let r = rec j n h.0 h.1 in (r.0, as_waited q r.1)
      go (Sum m o) n q h rec = let x = rec m n h.0.0 h.0.1 in let y = rec o n h.1.0 h.1.1 in (x.0 ⊕ y.0, as_sum q x.1 y.1)
      go (Name j) n q h rec = let r = rec j n h.0 h.1 in (r.0, as_named q r.1)

  -- ── the same for every place, with no count ──

  module _ (i : ℕ) (l : i < length ps) where
    pub led : (k : ℕ) (P : Term) (a : ℤ) (Q : Term) → Residual ps P i k → Moves E P a Q → Led Q a (moves_of ps i)
    led k P a Q = led_by (length ps) i k P a Q l (ok.no_return i l)

    pub leads : (k : ℕ) (P : Term) (a : ℤ) (d : ℕ) → Residual ps P i k → move a d ∈ moves_of ps i → Leads P a d
    leads k P a d = leads_by (length ps) i k P a d l (ok.no_return i l)

    pub urged : (k : ℕ) (P : Term) (a : ℤ) → Residual ps P i k → Urgent E P a → urgent_of ps i k ∋ a
    urged k P a s u = let r = urged_by (length ps) i k P a l (ok.no_return i l) s u in passes_set (is_urgent ps i k) a r.1 r.0

    pub urges : (k : ℕ) (P : Term) (a : ℤ) → Residual ps P i k → urgent_of ps i k ∋ a → Urgent E P a
    urges k P a s u = urges_by (length ps) i k P a l (ok.no_return i l) s (set_passes (is_urgent ps i k) a u)

    pub ticked : (k : ℕ) (P Q : Term) → Residual ps P i k → Ticks E P Q → Residual ps Q i (suc k) × (urgent_of ps i k ∋ internal → ⊥)
    ticked k P Q s t = let r = ticked_by (length ps) i k P Q l (ok.no_return i l) s t in (r.0, λ u. r.1 (set_passes (is_urgent ps i k) internal u))

    pub ticks : (k : ℕ) (P : Term) → Residual ps P i k → (urgent_of ps i k ∋ internal → ⊥) → (Q : Term) × Ticks E P Q
    ticks k P s h = ticks_by (length ps) i k P l (ok.no_return i l) s (λ u. h (passes_set (is_urgent ps i k) internal (omega arith) u))

    pub settled : (k : ℕ) (P : Term) → depth_of ps i ≤ k → Residual ps P i (suc k) → Residual ps P i k
    settled k P = settled_by (length ps) i k P l (ok.no_return i l)

    pub termed : (k : ℕ) → (P : Term) × Residual ps P i k
    termed k = termed_by (length ps) i k l (ok.no_return i l)
