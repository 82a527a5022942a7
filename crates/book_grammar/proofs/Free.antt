-- What the words of a derivation do, by the grammar alone.
use Rattle.std.proofs.Common.{◌≡◌, ℕ, Bool, true, false, not, ◌&&◌, List, [], ◌∷◌, ◌++◌, map, length, Some, None, Option, refl, ap, ◌∙◌}
use Rattle.std.proofs.lemmas.List.{append_assoc}
use Rattle.std.proofs.lemmas.Bool.{false≢true}
use Rattle.rows.specs.declared.row.Place.{Place}
use Rattle.rows.specs.declared.row.ModuleRow.{ModuleRow}
use Rattle.book_words.specs.Words.{Kind}
use Rattle.book_words.specs.Words.Kind.{bad, plus, equals, ends, closes, leave, name}
use Rattle.book_grammar.specs.Grammar.{Tree, Equation, Module, Term, Sum, Equations, Book}
use Rattle.book_grammar.specs.Grammar.Tree.{both}
use Rattle.book_grammar.specs.Grammar.Term.{term_nil, term_name, term_wait, term_act, term_group}
use Rattle.book_grammar.specs.Grammar.Sum.{sum_one, sum_more}
use Rattle.book_grammar.specs.Grammar.Equations.{last_equation, more_equations}
use Rattle.book_grammar.specs.Grammar.Book.{no_module, more_modules}
use Rattle.book_grammar.specs.Rows.{Row, newest, laid, Side, side, rows_after, sides_after, settled, module_row, places_after, modules_after}
use Rattle.book_grammar.specs.Reading.{Open, Reading, on, around, finished, some, allowed, sided, moved, is}
use Rattle.book_grammar.specs.Reading.State.{outside, left, term, after}
use Rattle.book_grammar.specs.Reading.Open.{waiting, acting, adding, paren}

-- a word of the grammar that may stand there
abbrev pub fine : Reading → Kind → Bool
fine s w = allowed s w && not (is w bad)

-- reading by the grammar alone
abbrev pub freely : Reading → List Kind → Option Reading
freely s [] = Some s
freely s (w ∷ ws) = elim (fine s w) [ true ↦ freely (moved s w) ws | false ↦ None ]

-- one word more
pub freely_step : (s : Reading) (w : Kind) (ws : List Kind) → fine s w ≡ true → freely s (w ∷ ws) ≡ freely (moved s w) ws
freely_step s w ws e = ap {B = Option Reading} (λ (b : Bool). elim b [ true ↦ freely (moved s w) ws | false ↦ None ]) e

-- a left side begun
abbrev pub at_left : Reading → List Row → List Side → Reading
at_left s rows sides = record { state = left; opened = []; rows = rows; sides = sides; titles = s.titles; places = s.places; modules = s.modules }

abbrev pub Closed : List Open → Type 0
Closed os = (around os ≡ os) × ((R : List Row) → finished os R ≡ R)

mutual
  -- what the words of a term do
  pub term_does : {u : List Kind} {t : Tree} → Term u t → (s : Reading) (os : List Open) (R : List Row) (v : List Kind)
      → freely (on s term os R) (u ++ v) ≡ freely (on s after (around os) (finished os (laid t R))) v
  term_does term_nil s os R v = refl
  term_does (term_name x) s os R v = refl
  term_does (term_wait d) s os R v = term_does d s (waiting ∷ os) R v
  term_does (term_act a d) s os R v = term_does d s (acting a ∷ os) R v
  term_does (term_group {u} {t} d) s os R v =
      ap (λ (w : List Kind). freely (on s term (paren ∷ os) R) w) (append_assoc u (closes ∷ []) v)
      ∙ sum_does d s (paren ∷ os) R (closes ∷ v) (refl, λ X. refl)

  pub sum_does : {u : List Kind} {t : Tree} → Sum u t → (s : Reading) (os : List Open) (R : List Row) (v : List Kind) → Closed os
      → freely (on s term os R) (u ++ v) ≡ freely (on s after os (laid t R)) v
  sum_does (sum_one {u} {t} d) s os R v c =
      term_does d s os R v
      ∙ ap (λ (o : List Open). freely (on s after o (finished os (laid t R))) v) c.0
      ∙ ap (λ (X : List Row). freely (on s after os X) v) (c.1 (laid t R))
  sum_does (sum_more {u} {v = w} {l} {r} d e) s os R v c =
      ap (λ (y : List Kind). freely (on s term os R) y) (append_assoc u (plus ∷ w) v)
      ∙ sum_does d s os R (plus ∷ (w ++ v)) c
      ∙ term_does e s (adding (newest (laid l R)) ∷ os) (laid l R) v
      ∙ ap (λ (o : List Open). freely (on s after o (finished os (laid (both l r) R))) v) c.0
      ∙ ap (λ (X : List Row). freely (on s after os X) v) (c.1 (laid (both l r) R))

pub sided_last : (E : List Side) (x : List ℕ) (j k : ℕ) → sided (E ++ side x j ∷ []) k ≡ E ++ side x k ∷ []
sided_last [] x j k = refl
sided_last (e ∷ []) x j k = refl
sided_last (e ∷ f ∷ E) x j k = ap (λ (l : List Side). e ∷ l) (sided_last (f ∷ E) x j k)

-- an equation
pub equation_does : (x : List ℕ) {u : List Kind} {t : Tree} → Sum u t → (s : Reading) (R : List Row) (E : List Side) (v : List Kind)
    → freely (at_left s R E) (name x ∷ equals ∷ (u ++ ends ∷ v)) ≡ freely (at_left s (laid t R) (E ++ side x (newest (laid t R)) ∷ [])) v
equation_does x {u} {t} d s R E v =
    sum_does d (at_left s R (E ++ side x 0 ∷ [])) [] R (ends ∷ v) (refl, λ X. refl)
    ∙ ap (λ (S : List Side). freely (at_left s (laid t R) S) v) (sided_last E x 0 (newest (laid t R)))

pub equations_do : {u : List Kind} {es : List Equation} → Equations u es → (s : Reading) (R : List Row) (E : List Side) (v : List Kind)
    → freely (at_left s R E) (u ++ v) ≡ freely (at_left s (rows_after es R) (sides_after es R E)) v
equations_do (last_equation x {u} {t} d) s R E v =
    ap (λ (y : List Kind). freely (at_left s R E) (name x ∷ equals ∷ y)) (append_assoc u (ends ∷ []) v)
    ∙ equation_does x d s R E v
equations_do (more_equations x {u} {v = w} {t} {es} d f) s R E v =
    ap (λ (y : List Kind). freely (at_left s R E) (name x ∷ equals ∷ y)) (append_assoc u (ends ∷ w) v)
    ∙ equation_does x d s R E (w ++ v)
    ∙ equations_do f s (laid t R) (E ++ side x (newest (laid t R)) ∷ []) v

abbrev pub at_outside : List (List ℕ) → List Place → List ModuleRow → Reading
at_outside titles places modules = record { state = outside; opened = []; rows = []; sides = []; titles = titles; places = places; modules = modules }

abbrev pub titles_after : List Module → List (List ℕ) → List (List ℕ)
titles_after [] titles = titles
titles_after (m ∷ ms) titles = titles_after ms (titles ++ m.title ∷ [])

pub some_push : {A : Type 0} (xs : List A) (x : A) → some (xs ++ x ∷ []) ≡ true
some_push [] x = refl
some_push (y ∷ xs) x = refl

equations_some : {u : List Kind} {es : List Equation} → Equations u es → (R : List Row) (E : List Side) → some (sides_after es R E) ≡ true
equations_some (last_equation x {u} {t} d) R E = some_push E (side x (newest (laid t R)))
equations_some (more_equations x {u} {t} {es} d f) R E = equations_some f (laid t R) _

-- the closing brace
leave_does : (s : Reading) (R : List Row) (E : List Side) (v : List Kind) → some E ≡ true
    → freely (at_left s R E) (leave ∷ v)
    ≡ freely (at_outside s.titles (s.places ++ map (settled E) R) (s.modules ++ module_row (length s.places) R E ∷ [])) v
leave_does s R [] v h = absurd (false≢true h)
leave_does s R (e ∷ E) v h = refl

pub book_does : {u : List Kind} {ms : List Module} → Book u ms → (titles : List (List ℕ)) (places : List Place) (modules : List ModuleRow)
    → freely (at_outside titles places modules) u ≡ Some (at_outside (titles_after ms titles) (places_after ms places) (modules_after ms places modules))
book_does no_module titles places modules = refl
book_does (more_modules x {u} {v} {es} {ms} d f) titles places modules =
    let s = at_outside (titles ++ x ∷ []) places modules in
    equations_do d s [] [] (leave ∷ v)
    ∙ leave_does s (rows_after es []) (sides_after es [] []) v (equations_some d [] [])
    ∙ book_does f (titles ++ x ∷ []) _ _
