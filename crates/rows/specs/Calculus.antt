-- The calculus by its own rules, and the terms that the states of a module stand for. Assumes nothing.
use Rattle.std.specs.Prelude.{◌≡◌, ℕ, suc, ◌≢◌, List, ℤ}
use Rattle.action.specs.Action.{internal}
use Rattle.rows.specs.declared.row.Place.{Place}
use Rattle.rows.specs.declared.row.Place.TheVariants.{Nil, Act, Wait, Sum, Name}
use Rattle.rows.specs.Places.{row}

infixl 6 ◌⊕◌
-- Nil, an action and a term, a wait and a term, a choice, and a name. Recursion is by names, each with an equation.
pub data Term : Type 0 where
  nil : Term
  act : ℤ → Term → Term
  wait : Term → Term
  ◌⊕◌ : Term → Term → Term
  name : ℕ → Term

-- The rules, with E n for the right side of the equation of name n.
module _ (E : ℕ → Term) where
  -- action a is urgent in P
  pub data Urgent : Term → ℤ → Type 0 where
    u_act : {a : ℤ} {P : Term} → Urgent (act a P) a
    u_left : {a : ℤ} {P Q : Term} → Urgent P a → Urgent (P ⊕ Q) a
    u_right : {a : ℤ} {P Q : Term} → Urgent Q a → Urgent (P ⊕ Q) a
    u_name : {a : ℤ} {n : ℕ} → Urgent (E n) a → Urgent (name n) a

  -- P moves by a to Q
  pub data Moves : Term → ℤ → Term → Type 0 where
    m_act : {a : ℤ} {P : Term} → Moves (act a P) a P
    m_wait : {a : ℤ} {P Q : Term} → Moves P a Q → Moves (wait P) a Q
    m_left : {a : ℤ} {P Q R : Term} → Moves P a R → Moves (P ⊕ Q) a R
    m_right : {a : ℤ} {P Q R : Term} → Moves Q a R → Moves (P ⊕ Q) a R
    m_name : {a : ℤ} {n : ℕ} {Q : Term} → Moves (E n) a Q → Moves (name n) a Q

  -- one unit of time leads from P to Q
  pub data Ticks : Term → Term → Type 0 where
    t_nil : Ticks nil nil
    t_act : {a : ℤ} {P : Term} → a ≢ internal → Ticks (act a P) (act a P)
    t_wait : {P : Term} → Ticks (wait P) P
    t_sum : {P Q P' Q' : Term} → Ticks P P' → Ticks Q Q' → Ticks (P ⊕ Q) (P' ⊕ Q')
    t_name : {n : ℕ} {Q : Term} → Ticks (E n) Q → Ticks (name n) Q

-- Each place is a name, and its row is the equation of that name.
abbrev pub right : Place → Term
right Nil = nil
right (Act a j) = act a (name j)
right (Wait j) = wait (name j)
right (Sum l r) = name l ⊕ name r
right (Name j) = name j

abbrev pub equations : List Place → ℕ → Term
equations ps i = right (row ps i)

-- P is a residual of place i after k units of time: the place's name at first, or what is left of its row then,
-- where nil and an action stay as they are, a wait becomes its follower, both sides of a sum grow older, and a name is what it names.
module _ (ps : List Place) where
  pub data Residual : Term → ℕ → ℕ → Type 0 where
    as_name : {i : ℕ} → Residual (name i) i 0
    as_nil : {i k : ℕ} → row ps i ≡ Nil → Residual nil i k
    as_act : {i k j : ℕ} {a : ℤ} → row ps i ≡ Act a j → Residual (act a (name j)) i k
    as_wait : {i j : ℕ} → row ps i ≡ Wait j → Residual (wait (name j)) i 0
    as_waited : {i j k : ℕ} {P : Term} → row ps i ≡ Wait j → Residual P j k → Residual P i (suc k)
    as_sum : {i l r k : ℕ} {P Q : Term} → row ps i ≡ Sum l r → Residual P l k → Residual Q r k → Residual (P ⊕ Q) i k
    as_named : {i j k : ℕ} {P : Term} → row ps i ≡ Name j → Residual P j k → Residual P i k
