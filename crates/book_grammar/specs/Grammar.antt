-- The grammar of books, over the kinds of words. A derivation gives a tree. Assumes nothing.
use Rattle.std.specs.Prelude.{ℕ, List, [], ◌∷◌, ◌++◌, ℤ}
use Rattle.book_words.specs.Words.{Kind}
use Rattle.book_words.specs.Words.Kind.{begins, nil, wait, dot, plus, equals, ends, opens, closes, enter, leave, name, act}

-- a right side as it is written
pub data Tree : Type 0 where
  nought : Tree
  called : List ℕ → Tree
  waits : Tree → Tree
  acts : ℤ → Tree → Tree
  both : Tree → Tree → Tree
  group : Tree → Tree

pub record Equation : Type 0 where
  pub left : List ℕ
  pub right : Tree

pub record Module : Type 0 where
  pub title : List ℕ
  pub equations : List Equation

mutual
  -- a term is `0`, a name, `w.` and a term, an action, `.` and a term, or a sum in parentheses
  pub data Term : List Kind → Tree → Type 0 where
    term_nil : Term (nil ∷ []) nought
    term_name : (x : List ℕ) → Term (name x ∷ []) (called x)
    term_wait : {u : List Kind} {t : Tree} → Term u t → Term (wait ∷ dot ∷ u) (waits t)
    term_act : (a : ℤ) {u : List Kind} {t : Tree} → Term u t → Term (act a ∷ dot ∷ u) (acts a t)
    term_group : {u : List Kind} {t : Tree} → Sum u t → Term (opens ∷ (u ++ closes ∷ [])) (group t)

  -- a sum is one or more terms joined by `+`, grouped from the left
  pub data Sum : List Kind → Tree → Type 0 where
    sum_one : {u : List Kind} {t : Tree} → Term u t → Sum u t
    sum_more : {u v : List Kind} {l r : Tree} → Sum u l → Term v r → Sum (u ++ plus ∷ v) (both l r)

-- one or more equations: a name, `=`, a sum, `;`
pub data Equations : List Kind → List Equation → Type 0 where
  last_equation : (x : List ℕ) {u : List Kind} {t : Tree} → Sum u t
      → Equations (name x ∷ equals ∷ (u ++ ends ∷ [])) (record { left = x; right = t } ∷ [])
  more_equations : (x : List ℕ) {u v : List Kind} {t : Tree} {es : List Equation} → Sum u t → Equations v es
      → Equations (name x ∷ equals ∷ (u ++ ends ∷ v)) (record { left = x; right = t } ∷ es)

-- any number of modules: `module`, a name, `{`, equations, `}`
pub data Book : List Kind → List Module → Type 0 where
  no_module : Book [] []
  more_modules : (x : List ℕ) {u v : List Kind} {es : List Equation} {ms : List Module} → Equations u es → Book v ms
      → Book (begins ∷ name x ∷ enter ∷ (u ++ leave ∷ v)) (record { title = x; equations = es } ∷ ms)
