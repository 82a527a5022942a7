-- The first fault of several, as facts. Assumes nothing.
use Rattle.std.proofs.Common.{◌≡◌, ℕ, ◌<◌, ◌≤◌, Bool, true, false, eqb, ltb, leb, is_some, Some, None, Option, refl, subst}
use Rattle.std.proofs.lemmas.Bool.{leb-true, ltb-true, eqb-true, le-leb, lt-ltb, eq-eqb}
use Rattle.table_format.specs.declared.fault.TableFault.{TableFault}
use Rattle.table_format.specs.Taking.{try, ◌▹◌, number, place}

-- one after the other
pub then_l : (f g : Option TableFault) → (f ▹ g) ≡ None → f ≡ None
then_l None g e = refl
then_l (Some f) g e = e

pub then_r : (f g : Option TableFault) → (f ▹ g) ≡ None → g ≡ None
then_r None g e = e
then_r (Some f) g e = cc

pub then_i : (f g : Option TableFault) → f ≡ None → g ≡ None → (f ▹ g) ≡ None
then_i None g e h = h
then_i (Some f) g e h = e

pub none_then : (f g : Option TableFault) → f ≡ None → (f ▹ g) ≡ g
none_then None g e = refl
none_then (Some f) g e = cc

pub some_then : (f g : Option TableFault) (x : TableFault) → f ≡ Some x → (f ▹ g) ≡ Some x
some_then None g x e = cc
some_then (Some f) g x e = e

pub then_then : (f g h : Option TableFault) → ((f ▹ g) ▹ h) ≡ (f ▹ g ▹ h)
then_then None g h = refl
then_then (Some f) g h = refl

-- one test
pub try_none : (t : Bool) (f : TableFault) → try t f ≡ None → t ≡ true
try_none true f e = refl
try_none false f e = cc

pub none_try : (t : Bool) (f : TableFault) → t ≡ true → try t f ≡ None
none_try true f e = refl
none_try false f e = cc

pub try_some : (t : Bool) (f : TableFault) → t ≡ false → try t f ≡ Some f
try_some true f e = cc
try_some false f e = refl

module _ (x y : ℕ) (f : TableFault) where
  pub le_none : try (leb x y) f ≡ None → x ≤ y
  le_none e = leb-true x y (try_none (leb x y) f e)

  pub none_le : x ≤ y → try (leb x y) f ≡ None
  none_le l = none_try (leb x y) f (le-leb x y l)

  pub lt_none : try (ltb x y) f ≡ None → x < y
  lt_none e = ltb-true x y (try_none (ltb x y) f e)

  pub none_lt : x < y → try (ltb x y) f ≡ None
  none_lt l = none_try (ltb x y) f (lt-ltb x y l)

  pub eq_none : try (eqb x y) f ≡ None → x ≡ y
  eq_none e = eqb-true x y (try_none (eqb x y) f e)

  pub none_eq : x ≡ y → try (eqb x y) f ≡ None
  none_eq p = none_try (eqb x y) f (eq-eqb x y p)

-- a fault, if there is one, has a number and lies at n at most
abbrev pub Lies : ℕ → Option TableFault → Type 0
Lies n None = Unit {0}
Lies n (Some f) = (is_some (number f) ≡ true) × (place f ≤ n)

pub lies_try : (n : ℕ) (t : Bool) (f : TableFault) → is_some (number f) ≡ true → place f ≤ n → Lies n (try t f)
lies_try n true f e h = tt
lies_try n false f e h = (e, h)

pub lies_then : (n : ℕ) (f g : Option TableFault) → Lies n f → (f ≡ None → Lies n g) → Lies n (f ▹ g)
lies_then n None g h k = k refl
lies_then n (Some f) g h k = h

pub lies_at : (n : ℕ) (o : Option TableFault) (f : TableFault) → Lies n o → o ≡ Some f → (is_some (number f) ≡ true) × (place f ≤ n)
lies_at n o f h e = subst (Lies n) e h
