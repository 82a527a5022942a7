-- The limits and the rules of names, of a book as it is derived. Assumes nothing.
use Rattle.std.specs.Prelude.{◌≡◌, ℕ, suc, ◌≤◌, max, true, false, List, [], ◌∷◌, ◌++◌, map, length}
use Rattle.book_words.specs.Words.{same, words, kinds}
use Rattle.book_grammar.specs.Grammar.{Tree, Equation, Module, Book}
use Rattle.book_grammar.specs.Grammar.Tree.{nought, called, waits, acts, both, group}
use Rattle.book_grammar.specs.Rows.{rows_after, places_after, modules_after}
use Rattle.book_grammar.specs.Numbers.{most_modules, most_equations, most_places, most_parentheses, most_letters}
use Rattle.book_grammar.specs.Reading.{reading}
use Rattle.action.specs.Lists.{any}
use Rattle.book_grammar.specs.Reading.Read.{taken}
use Rattle.rows.specs.declared.row.Place.{Place}
use Rattle.rows.specs.declared.row.ModuleRow.{ModuleRow}

-- the names in a right side
abbrev pub calls : Tree → List (List ℕ)
calls nought = []
calls (called x) = x ∷ []
calls (waits t) = calls t
calls (acts a t) = calls t
calls (both l r) = calls l ++ calls r
calls (group t) = calls t

-- how many parentheses stand in one another
abbrev pub deep : Tree → ℕ
deep nought = 0
deep (called x) = 0
deep (waits t) = deep t
deep (acts a t) = deep t
deep (both l r) = max (deep l) (deep r)
deep (group t) = suc (deep t)

abbrev pub Short : List ℕ → Type 0
Short x = length x ≤ most_letters

abbrev pub Each : {A : Type 0} → (A → Type 0) → List A → Type 0
Each P [] = Unit {0}
Each P (x ∷ xs) = P x × Each P xs

-- none of the names was given before
abbrev pub Apart : List (List ℕ) → List (List ℕ) → Type 0
Apart before [] = Unit {0}
Apart before (x ∷ xs) = (any (same x) before ≡ false) × Apart (before ++ x ∷ []) xs

abbrev pub Among : List (List ℕ) → List ℕ → Type 0
Among names x = any (same x) names ≡ true

pub record FitsEquation (e : Equation) : Type 0 where
  pub left_short : Short e.left
  pub names_short : Each Short (calls e.right)
  pub nested : deep e.right ≤ most_parentheses

abbrev pub lefts_of : List Equation → List (List ℕ)
lefts_of es = map (λ (e : Equation). e.left) es

pub record FitsModule (m : Module) : Type 0 where
  pub title_short : Short m.title
  pub few : length m.equations ≤ most_equations
  pub apart : Apart [] (lefts_of m.equations)
  pub each : Each FitsEquation m.equations
  pub known : Each (λ (e : Equation). Each (Among (lefts_of m.equations)) (calls e.right)) m.equations
  pub places : length (rows_after m.equations []) ≤ most_places

-- a book within the limits, with p place rows and m module rows lent
pub record Fits (p m : ℕ) (ms : List Module) : Type 0 where
  pub few : length ms ≤ most_modules
  pub lent : length ms ≤ m
  pub apart : Apart [] (map (λ (md : Module). md.title) ms)
  pub each : Each FitsModule ms
  pub room : length (places_after ms []) ≤ p

-- a text is a book within the limits, with these rows
pub record IsBook (p m : ℕ) (text : List ℕ) (places : List Place) (modules : List ModuleRow) : Type 0 where
  pub book : List Module
  pub derived : Book (kinds (words text)) book
  pub fits : Fits p m book
  pub places_so : places ≡ places_after book []
  pub modules_so : modules ≡ modules_after book [] []

-- a text is taken exactly when it has a derivation within the limits, and the rows are those of the derived tree
abbrev pub TakenDerived : Type 0
TakenDerived = (p m : ℕ) (text : List ℕ) (places : List Place) (modules : List ModuleRow)
    → reading p m text ≡ taken places modules → IsBook p m text places modules

abbrev pub DerivedTaken : Type 0
DerivedTaken = (p m : ℕ) (text : List ℕ) (places : List Place) (modules : List ModuleRow)
    → IsBook p m text places modules → reading p m text ≡ taken places modules
