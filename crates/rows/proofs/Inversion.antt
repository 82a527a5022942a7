-- The last rule of a derivation, from the shape of its term. Assumes nothing.
use Rattle.std.proofs.Common.{◌≡◌, ℕ, zero, suc, ◌≢◌, ◌⊎◌, List, ℤ, sym, refl, subst, inl, inr}
use Rattle.action.specs.Action.{internal}
use Rattle.rows.specs.declared.row.Place.{Place}
use Rattle.rows.specs.declared.row.Place.TheVariants.{Nil, Act, Wait, Sum, Name}
use Rattle.rows.specs.Places.{row}
use Rattle.rows.specs.Calculus.{Term, nil, act, wait, ◌⊕◌, name, Urgent, u_act, u_left, u_right, u_name, Moves, m_act, m_wait, m_left, m_right, m_name, Ticks, t_nil, t_act, t_wait, t_sum, t_name, right, equations, Residual, as_name, as_nil, as_act, as_wait, as_waited, as_sum, as_named}

module _ (E : ℕ → Term) where
  pub m_not_nil : {a : ℤ} {Q : Term} → Moves E nil a Q → ⊥
  m_not_nil s = elim s [ ]

  pub m_of_act : {a b : ℤ} {P Q : Term} → Moves E (act b P) a Q → (a ≡ b) × (Q ≡ P)
  m_of_act m_act = (refl, refl)

  pub m_of_wait : {a : ℤ} {P Q : Term} → Moves E (wait P) a Q → Moves E P a Q
  m_of_wait (m_wait s) = s

  pub m_of_sum : {a : ℤ} {P Q R : Term} → Moves E (P ⊕ Q) a R → Moves E P a R ⊎ Moves E Q a R
  m_of_sum (m_left s) = inl s
  m_of_sum (m_right s) = inr s

  pub m_of_name : {a : ℤ} {n : ℕ} {Q : Term} → Moves E (name n) a Q → Moves E (E n) a Q
  m_of_name (m_name s) = s

  pub u_not_nil : {a : ℤ} → Urgent E nil a → ⊥
  u_not_nil u = elim u [ ]

  pub u_not_wait : {a : ℤ} {P : Term} → Urgent E (wait P) a → ⊥
  u_not_wait u = elim u [ ]

  pub u_of_act : {a b : ℤ} {P : Term} → Urgent E (act b P) a → a ≡ b
  u_of_act u_act = refl

  pub u_of_sum : {a : ℤ} {P Q : Term} → Urgent E (P ⊕ Q) a → Urgent E P a ⊎ Urgent E Q a
  u_of_sum (u_left u) = inl u
  u_of_sum (u_right u) = inr u

  pub u_of_name : {a : ℤ} {n : ℕ} → Urgent E (name n) a → Urgent E (E n) a
  u_of_name (u_name u) = u

  pub t_of_nil : {Q : Term} → Ticks E nil Q → Q ≡ nil
  t_of_nil t_nil = refl

  pub t_of_act : {a : ℤ} {P Q : Term} → Ticks E (act a P) Q → (a ≢ internal) × (Q ≡ act a P)
  t_of_act (t_act h) = (h, refl)

  pub t_of_wait : {P Q : Term} → Ticks E (wait P) Q → Q ≡ P
  t_of_wait t_wait = refl

  pub t_of_sum : {P Q R : Term} → Ticks E (P ⊕ Q) R → (P' : Term) × (Q' : Term) × (R ≡ P' ⊕ Q') × Ticks E P P' × Ticks E Q Q'
  t_of_sum (t_sum {P' = P'} {Q' = Q'} s t) = (P', Q', refl, s, t)

  pub t_of_name : {n : ℕ} {Q : Term} → Ticks E (name n) Q → Ticks E (E n) Q
  t_of_name (t_name t) = t

  -- what is urgent can be done
  pub urgent_moves : {P : Term} {a : ℤ} → Urgent E P a → (Q : Term) × Moves E P a Q
  urgent_moves (u_act {P = P}) = (P, m_act)
  urgent_moves (u_left u) = let r = urgent_moves u in (r.0, m_left r.1)
  urgent_moves (u_right u) = let r = urgent_moves u in (r.0, m_right r.1)
  urgent_moves (u_name u) = let r = urgent_moves u in (r.0, m_name r.1)

module _ (ps : List Place) where
  -- a term of a place at an age, by the kind of the place, where it is not the place's name
  abbrev pub Shape : Place → ℕ → Term → Type 0
  Shape Nil k P = P ≡ nil
  Shape (Act a j) k P = P ≡ act a (name j)
  Shape (Wait j) zero P = P ≡ wait (name j)
  Shape (Wait j) (suc k) P = Residual ps P j k
  Shape (Sum l r) k P = (Q : Term) × (R : Term) × (P ≡ Q ⊕ R) × Residual ps Q l k × Residual ps R r k
  Shape (Name j) k P = Residual ps P j k

  pub right_shape : (p : Place) → Shape p 0 (right p)
  right_shape Nil = refl
  right_shape (Act a j) = refl
  right_shape (Wait j) = refl
  right_shape (Sum l r) = (name l, name r, refl, as_name, as_name)
  right_shape (Name j) = as_name

  pub shape_of : {P : Term} {i k : ℕ} → Residual ps P i k → ((P ≡ name i) × (k ≡ 0)) ⊎ Shape (row ps i) k P
  shape_of as_name = inl (refl, refl)
  shape_of (as_nil {k = k} e) = inr (subst (λ p. Shape p k nil) (sym e) refl)
  shape_of (as_act {k = k} {j = j} {a = a} e) = inr (subst (λ p. Shape p k (act a (name j))) (sym e) refl)
  shape_of (as_wait {j = j} e) = inr (subst (λ p. Shape p 0 (wait (name j))) (sym e) refl)
  shape_of (as_waited {k = k} {P = P} e s) = inr (subst (λ p. Shape p (suc k) P) (sym e) s)
  shape_of (as_sum {k = k} {P = P} {Q = Q} e s t) = inr (subst (λ p. Shape p k (P ⊕ Q)) (sym e) (P, Q, refl, s, t))
  shape_of (as_named {k = k} {P = P} e s) = inr (subst (λ p. Shape p k P) (sym e) s)

  pub shape_residual : (p : Place) {P : Term} {i : ℕ} (k : ℕ) → row ps i ≡ p → Shape p k P → Residual ps P i k
  shape_residual Nil {i = i} k e h = subst (λ X. Residual ps X i k) (sym h) (as_nil e)
  shape_residual (Act a j) {i = i} k e h = subst (λ X. Residual ps X i k) (sym h) (as_act e)
  shape_residual (Wait j) {i = i} zero e h = subst (λ X. Residual ps X i 0) (sym h) (as_wait e)
  shape_residual (Wait j) (suc k) e h = as_waited e h
  shape_residual (Sum l r) {i = i} k e h = subst (λ X. Residual ps X i k) (sym h.2) (as_sum e h.3 h.4)
  shape_residual (Name j) k e h = as_named e h

  -- A term of a state has the derivations of a term of the state's shape: a name has those of its right side.
  pub record Seen (P : Term) (i k : ℕ) : Type 0 where
    pub term : Term
    pub shape : Shape (row ps i) k term
    pub m_to : (a : ℤ) (Q : Term) → Moves (equations ps) P a Q → Moves (equations ps) term a Q
    pub m_from : (a : ℤ) (Q : Term) → Moves (equations ps) term a Q → Moves (equations ps) P a Q
    pub u_to : (a : ℤ) → Urgent (equations ps) P a → Urgent (equations ps) term a
    pub u_from : (a : ℤ) → Urgent (equations ps) term a → Urgent (equations ps) P a
    pub t_to : (Q : Term) → Ticks (equations ps) P Q → Ticks (equations ps) term Q
    pub t_from : (Q : Term) → Ticks (equations ps) term Q → Ticks (equations ps) P Q

  pub seen : (P : Term) (i k : ℕ) → Residual ps P i k → Seen P i k
  seen P i k s = go (shape_of s)
    where
      go : ((P ≡ name i) × (k ≡ 0)) ⊎ Shape (row ps i) k P → Seen P i k
      go (inl e) = record {
        term = right (row ps i);
        shape = subst (λ n. Shape (row ps i) n (right (row ps i))) (sym e.1) (right_shape (row ps i));
        m_to = λ a Q h. m_of_name (equations ps) (subst (λ X. Moves (equations ps) X a Q) e.0 h);
        m_from = λ a Q h. subst (λ X. Moves (equations ps) X a Q) (sym e.0) (m_name h);
        u_to = λ a h. u_of_name (equations ps) (subst (λ X. Urgent (equations ps) X a) e.0 h);
        u_from = λ a h. subst (λ X. Urgent (equations ps) X a) (sym e.0) (u_name h);
        t_to = λ Q h. t_of_name (equations ps) (subst (λ X. Ticks (equations ps) X Q) e.0 h);
        t_from = λ Q h. subst (λ X. Ticks (equations ps) X Q) (sym e.0) (t_name h);
      }
      go (inr h) = record { term = P; shape = h; m_to = λ a Q x. x; m_from = λ a Q x. x; u_to = λ a x. x; u_from = λ a x. x; t_to = λ Q x. x; t_from = λ Q x. x }
