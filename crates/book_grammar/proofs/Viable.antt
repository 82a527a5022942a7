-- What the grammar leads to can be continued to a book; refusal 2.
use Rattle.std.proofs.Common.{◌≡◌, ℕ, zero, suc, Bool, true, false, not, ◌||◌, eqb, ◌⊎◌, List, [], ◌∷◌, ◌++◌, length, Some, None, Option, sym, refl, ap, ◌∙◌, subst, inl, inr, arith}
use Rattle.std.proofs.lemmas.List.{append_assoc}
use Rattle.std.proofs.lemmas.Bool.{false≢true, and_parts, or_cases, and_from, eqb-true, cases_Bool, and_left}
use Rattle.rows.specs.declared.row.Place.{Place}
use Rattle.rows.specs.declared.row.Place.TheVariants.{Nil}
use Rattle.rows.specs.declared.row.ModuleRow.{ModuleRow}
use Rattle.book_words.specs.Words.{Kind, Word, words}
use Rattle.book_words.specs.Words.Kind.{alien, other, bad, begins, nil, wait, dot, plus, equals, ends, opens, closes, enter, leave, name, act}
use Rattle.book_grammar.specs.Grammar.{Module, Book}
use Rattle.book_grammar.specs.Rows.{Row, newest, Side, side}
use Rattle.book_grammar.specs.Rows.Row.{plain}
use Rattle.book_grammar.specs.Reading.{State, Open, Reading, on, blank_reading, around, finished, state_number, at, some, inside, behind, allowed, on_name, sided, moved, is}
use Rattle.book_grammar.specs.Reading.State.{outside, title, brace, left, equal, term, point, after}
use Rattle.book_grammar.specs.Reading.Open.{waiting, acting, adding, paren}
use Rattle.book_words.specs.Words.{kinds}
use Rattle.book_grammar.specs.Reading.{long, given, lacking, over, tried, smallest, Step, Read, run, reading}
use Rattle.book_grammar.specs.Reading.Step.{stops, goes}
use Rattle.book_grammar.specs.Reading.Read.{refused, taken}
use Rattle.book_grammar.specs.Laws.{Continues, RefusalTwo}
use Rattle.book_grammar.proofs.Free.{freely, freely_step, fine, at_left, some_push, book_does}
use Rattle.book_grammar.proofs.Parsed.{none_some, book_of}

state_of : ℕ → State
state_of zero = outside
state_of (suc zero) = title
state_of (suc (suc zero)) = brace
state_of (suc (suc (suc zero))) = left
state_of (suc (suc (suc (suc zero)))) = equal
state_of (suc (suc (suc (suc (suc zero))))) = term
state_of (suc (suc (suc (suc (suc (suc zero)))))) = point
state_of (suc (suc (suc (suc (suc (suc (suc n))))))) = after

state_of_number : (a : State) → state_of (state_number a) ≡ a
unfolding state_of
state_of_number outside = refl
state_of_number title = refl
state_of_number brace = refl
state_of_number left = refl
state_of_number equal = refl
state_of_number term = refl
state_of_number point = refl
state_of_number after = refl

-- the test of a state tells which it is
pub state_is : (a b : State) → eqb (state_number a) (state_number b) ≡ true → a ≡ b
state_is a b e = sym (state_of_number a) ∙ ap state_of (eqb-true (state_number a) (state_number b) e) ∙ state_of_number b

-- what is so wherever the grammar leads
abbrev pub Sound : State → List Open → List Side → Type 0
Sound outside os E = os ≡ []
Sound title os E = os ≡ []
Sound brace os E = os ≡ []
Sound left os E = os ≡ []
Sound equal os E = (os ≡ []) × (some E ≡ true)
Sound term os E = some E ≡ true
Sound point os E = some E ≡ true
Sound after os E = (around os ≡ os) × (some E ≡ true)

abbrev pub Good : Reading → Type 0
Good s = Sound s.state s.opened s.sides

pub around_twice : (os : List Open) → around (around os) ≡ around os
around_twice [] = refl
around_twice (waiting ∷ os) = around_twice os
around_twice (acting a ∷ os) = around_twice os
around_twice (adding k ∷ os) = around_twice os
around_twice (paren ∷ os) = refl

pub some_sided : (E : List Side) (k : ℕ) → some (sided E k) ≡ some E
some_sided [] k = refl
some_sided (x ∷ []) k = refl
some_sided (x ∷ y ∷ E) k = refl

pub good_at : (s : Reading) (b : State) → at s b ≡ true → Good s → Sound b s.opened s.sides
good_at s b h g = subst (λ (q : State). Sound q s.opened s.sides) (state_is s.state b h) g

good_name : (s : Reading) (x : List ℕ) → (at s title ≡ true) ⊎ ((at s left || at s term) ≡ true) → Good s → Good (on_name s.state x s)
good_name s x (inl h) g = subst (λ (q : State). Good (on_name q x s)) (sym (state_is s.state title h)) (good_at s title h g)
good_name s x (inr h) g =
    elim (or_cases (at s left) (at s term) h) [
      | inl i ↦ subst (λ (q : State). Good (on_name q x s)) (sym (state_is s.state left i)) (good_at s left i g, some_push s.sides (side x 0))
      | inr i ↦ subst (λ (q : State). Good (on_name q x s)) (sym (state_is s.state term i)) (around_twice s.opened, good_at s term i g)
    ]

pub good_moved : (w : Kind) (s : Reading) → fine s w ≡ true → Good s → Good (moved s w)
good_moved begins s e g = good_at s outside (and_parts _ true e).0 g
good_moved (name x) s e g = good_name s x (or_cases (at s title) (at s left || at s term) (and_parts _ true e).0) g
good_moved enter s e g = good_at s brace (and_parts _ true e).0 g
good_moved leave s e g = refl
good_moved equals s e g = (good_at s equal (and_parts _ true e).0 g).1
good_moved nil s e g = (around_twice s.opened, good_at s term (and_parts _ true e).0 g)
good_moved wait s e g = good_at s term (and_parts _ true e).0 g
good_moved (act a) s e g = good_at s term (and_parts _ true e).0 g
good_moved opens s e g = good_at s term (and_parts _ true e).0 g
good_moved dot s e g = good_at s point (and_parts _ true e).0 g
good_moved plus s e g = (good_at s after (and_parts _ true e).0 g).1
good_moved closes s e g = (around_twice (behind s.opened), (good_at s after (and_parts _ (inside s.opened) (and_parts _ true e).0).0 g).1)
good_moved ends s e g = refl
good_moved bad s e g = absurd (false≢true (and_parts (at s term) false e).1)
good_moved other s e g = absurd (false≢true e)
good_moved alien s e g = absurd (false≢true e)

freely_stop : (s : Reading) (w : Kind) (ws : List Kind) → fine s w ≡ false → freely s (w ∷ ws) ≡ None
freely_stop s w ws e = ap {B = Option Reading} (λ (b : Bool). elim b [ true ↦ freely (moved s w) ws | false ↦ None ]) e

-- every good state can be led to the outside
abbrev Ends : Reading → Type 0
Ends s = (v : List Kind) × (z : Reading) × (freely s v ≡ Some z) × (at z outside ≡ true)

ends_by : (s : Reading) (w : Kind) → fine s w ≡ true → Ends (moved s w) → Ends s
ends_by s w e f = (w ∷ f.0, f.1, freely_step s w f.0 e ∙ f.2, f.3)

ends_after : (s : Reading) (os : List Open) (R : List Row) → some s.sides ≡ true → Ends (on s after (around os) R)
ends_after s [] R h =
    ends_by (on s after [] R) ends refl
    (ends_by (at_left s R (sided s.sides (newest R))) leave (and_from (some (sided s.sides (newest R))) true (some_sided s.sides (newest R) ∙ h) refl)
    ([], _, refl, refl))
ends_after s (waiting ∷ os) R h = ends_after s os R h
ends_after s (acting a ∷ os) R h = ends_after s os R h
ends_after s (adding k ∷ os) R h = ends_after s os R h
ends_after s (paren ∷ os) R h = ends_by (on s after (paren ∷ os) R) closes refl (ends_after s os (finished os R) h)

ends_term : (s : Reading) (os : List Open) (R : List Row) → some s.sides ≡ true → Ends (on s term os R)
ends_term s os R h = ends_by (on s term os R) nil refl (ends_after s os (finished os (R ++ plain Nil ∷ [])) h)

ends_left : (s : Reading) (R : List Row) → Ends (on s left [] R)
ends_left s R =
    let t = at_left s R (s.sides ++ side (65 ∷ []) 0 ∷ []) in
    ends_by (on s left [] R) (name (65 ∷ [])) refl (ends_by (on t equal [] R) equals refl (ends_term t [] R (some_push s.sides (side (65 ∷ []) 0))))

ends_brace : (s : Reading) (R : List Row) → Ends (on s brace [] R)
ends_brace s R = ends_by (on s brace [] R) enter refl (ends_left s R)

ends_title : (s : Reading) (R : List Row) → Ends (on s title [] R)
ends_title s R =
    let t : Reading = record { state = title; opened = []; rows = R; sides = s.sides; titles = s.titles ++ (65 ∷ []) ∷ []; places = s.places; modules = s.modules } in
    ends_by (on s title [] R) (name (65 ∷ [])) refl (ends_brace t R)

ends_well : (q : State) (s : Reading) (os : List Open) (R : List Row) → Sound q os s.sides → Ends (on s q os R)
ends_well outside s os R g = ([], _, refl, refl)
ends_well title s os R g = subst (λ (o : List Open). Ends (on s title o R)) (sym g) (ends_title s R)
ends_well brace s os R g = subst (λ (o : List Open). Ends (on s brace o R)) (sym g) (ends_brace s R)
ends_well left s os R g = subst (λ (o : List Open). Ends (on s left o R)) (sym g) (ends_left s R)
ends_well equal s os R g = subst (λ (o : List Open). Ends (on s equal o R)) (sym g.0) (ends_by (on s equal [] R) equals refl (ends_term s [] R g.1))
ends_well term s os R g = ends_term s os R g
ends_well point s os R g = ends_by (on s point os R) dot refl (ends_term s os R g)
ends_well after s os R g = subst (λ (o : List Open). Ends (on s after o R)) g.0 (ends_after s os R g.1)

freely_then : (s : Reading) (u v : List Kind) (t : Reading) → freely s u ≡ Some t → freely s (u ++ v) ≡ freely t v
freely_then s [] v t e = let i : s ≡ t = cc in ap (λ (r : Reading). freely r v) i
freely_then s (w ∷ u) v t e =
    elim (cases_Bool (fine s w)) [
      | inl f ↦ freely_step s w (u ++ v) f ∙ freely_then (moved s w) u v t (sym (freely_step s w u f) ∙ e)
      | inr f ↦ absurd (none_some t (sym (freely_stop s w u f) ∙ e))
    ]

good_reached : (s : Reading) (u : List Kind) (t : Reading) → Good s → freely s u ≡ Some t → Good t
good_reached s [] t g e = let i : s ≡ t = cc in subst (λ (r : Reading). Good r) i g
good_reached s (w ∷ u) t g e =
    elim (cases_Bool (fine s w)) [
      | inl f ↦ good_reached (moved s w) u t (good_moved w s f g) (sym (freely_step s w u f) ∙ e)
      | inr f ↦ absurd (none_some t (sym (freely_stop s w u f) ∙ e))
    ]

-- what the grammar leads to can be continued to a book
continues : (u : List Kind) (s : Reading) → freely blank_reading u ≡ Some s → Continues u
continues u s e =
    let f = ends_well s.state s s.opened s.rows (good_reached blank_reading u s refl e) in
    let b = book_of (length (u ++ f.0)) (u ++ f.0) (omega arith) [] [] [] f.1 (freely_then blank_reading u f.0 s e ∙ f.2) f.3 in
    (f.0, b.0, b.1)

-- a book by the grammar leads to the outside
leads : (u : List Kind) (b : List Module) → Book u b → (z : Reading) × (freely blank_reading u ≡ Some z) × (at z outside ≡ true)
leads u b d = (_, book_does d [] [] [], refl)

-- and what it does not lead to cannot
stuck : (u : List Kind) (s : Reading) (w : Kind) → freely blank_reading u ≡ Some s → fine s w ≡ false → Continues (u ++ w ∷ []) → ⊥
stuck u s w e f c =
    let l = leads ((u ++ w ∷ []) ++ c.0) c.1 c.2 in
    none_some l.0 (sym (freely_stop s w c.0 f) ∙ sym (freely_then blank_reading u (w ∷ c.0) s e)
    ∙ ap (λ (y : List Kind). freely blank_reading y) (sym (append_assoc u (w ∷ []) c.0)) ∙ l.1)

unfinished : (u : List Kind) (s : Reading) → freely blank_reading u ≡ Some s → at s outside ≡ false → (b : List Module) → Book u b → ⊥
unfinished u s e f b d =
    let l = leads u b d in
    let i : s ≡ l.0 = cc (e, l.1) in
    false≢true (sym f ∙ ap (λ (r : Reading). at r outside) i ∙ l.2)

-- what a step says
pub record Goes (b c d e f g : Bool) (r t : Reading) : Type 0 where
  pub allowed_so : b ≡ true
  pub no_bad : c ≡ false
  pub no_long : d ≡ false
  pub no_given : e ≡ false
  pub no_lacking : f ≡ false
  pub no_over : g ≡ false
  pub leads_to : r ≡ t

stops_goes : {X : Type 0} (n : ℕ) (t : Reading) → stops n ≡ goes t → X
stops_goes n t e = let z : ◌≡◌ {A = ℕ} 0 1 = cc in absurd (omega arith)

pub smallest_goes : (a b c d e f g : Bool) (r t : Reading) → smallest a b c d e f g r ≡ goes t → Goes b c d e f g r t
smallest_goes true b c d e f g r t h = stops_goes 1 t h
smallest_goes false false c d e f g r t h = stops_goes 2 t h
smallest_goes false true true d e f g r t h = stops_goes 3 t h
smallest_goes false true false true e f g r t h = stops_goes 4 t h
smallest_goes false true false false true f g r t h = stops_goes 5 t h
smallest_goes false true false false false true g r t h = stops_goes 6 t h
smallest_goes false true false false false false true r t h = stops_goes 7 t h
smallest_goes false true false false false false false r t h =
    record { allowed_so = refl; no_bad = refl; no_long = refl; no_given = refl; no_lacking = refl; no_over = refl; leads_to = cc }

other_number : {X : Type 0} (n k : ℕ) → stops n ≡ stops k → (n ≡ k → ⊥) → X
other_number n k e h = let z : n ≡ k = cc in absurd (h z)

smallest_two : (a b c d e f g : Bool) (r : Reading) → smallest a b c d e f g r ≡ stops 2 → b ≡ false
smallest_two true b c d e f g r h = other_number 1 2 h (λ z. omega arith)
smallest_two false false c d e f g r h = refl
smallest_two false true true d e f g r h = other_number 3 2 h (λ z. omega arith)
smallest_two false true false true e f g r h = other_number 4 2 h (λ z. omega arith)
smallest_two false true false false true f g r h = other_number 5 2 h (λ z. omega arith)
smallest_two false true false false false true g r h = other_number 6 2 h (λ z. omega arith)
smallest_two false true false false false false true r h = other_number 7 2 h (λ z. omega arith)
smallest_two false true false false false false false r h = stops_goes 2 r (sym h)

pub tried_goes : (p m : ℕ) (s : Reading) (w : Kind) (t : Reading) → tried p m s w ≡ goes t
    → Goes (allowed s w) (is w bad) (long w) (given s w) (lacking s w) (over p m (moved s w)) (moved s w) t
tried_goes p m s w t e = smallest_goes (is w alien) (allowed s w) (is w bad) (long w) (given s w) (lacking s w) (over p m (moved s w)) (moved s w) t e

pub goes_fine : (p m : ℕ) (s : Reading) (w : Kind) (t : Reading) → tried p m s w ≡ goes t → (fine s w ≡ true) × (moved s w ≡ t)
goes_fine p m s w t e =
    let g = tried_goes p m s w t e in
    (and_from (allowed s w) (not (is w bad)) g.allowed_so (ap not g.no_bad), g.leads_to)

-- where a run is refused 2
record StuckAt (s : Reading) (ws : List Word) (k : ℕ) : Type 0 where
  before : List Word
  word : Word
  rest : List Word
  split : ws ≡ before ++ word ∷ rest
  there : word.at ≡ k
  reached : Reading
  led : freely s (kinds before) ≡ Some reached
  barred : fine reached word.kind ≡ false

record EndsAt (s : Reading) (ws : List Word) : Type 0 where
  reached : Reading
  led : freely s (kinds ws) ≡ Some reached
  within : at reached outside ≡ false

refused_is : (n k n' k' : ℕ) → refused n k ≡ refused n' k' → (n ≡ n') × (k ≡ k')
refused_is n k n' k' e = (cc, cc)

taken_refused : {X : Type 0} (P : List Place) (M : List ModuleRow) (n k : ℕ) → taken P M ≡ refused n k → X
taken_refused P M n k e = let z : ◌≡◌ {A = ℕ} 0 1 = cc in absurd (omega arith)

stuck_later : (s : Reading) (w : Word) (ws : List Word) (t : Reading) (k : ℕ) → fine s w.kind ≡ true → moved s w.kind ≡ t → StuckAt t ws k → StuckAt s (w ∷ ws) k
stuck_later s w ws t k f i g = record {
  before = w ∷ g.before;
  word = g.word;
  rest = g.rest;
  split = ap (λ (y : List Word). w ∷ y) g.split;
  there = g.there;
  reached = g.reached;
  led = freely_step s w.kind (kinds g.before) f ∙ ap (λ (r : Reading). freely r (kinds g.before)) i ∙ g.led;
  barred = g.barred;
}

ends_later : (s : Reading) (w : Word) (ws : List Word) (t : Reading) → fine s w.kind ≡ true → moved s w.kind ≡ t → EndsAt t ws → EndsAt s (w ∷ ws)
ends_later s w ws t f i g = record {
  reached = g.reached;
  led = freely_step s w.kind (kinds ws) f ∙ ap (λ (r : Reading). freely r (kinds ws)) i ∙ g.led;
  within = g.within;
}

run_end : (p m end : ℕ) (s : Reading) (k : ℕ) (b : Bool) → at s outside ≡ b
    → ◌≡◌ {A = Read} (elim b [ true ↦ taken s.places s.modules | false ↦ refused 2 end ]) (refused 2 k) → (k ≡ end) × EndsAt s []
run_end p m end s k true h e = taken_refused s.places s.modules 2 k e
run_end p m end s k false h e = (sym (refused_is 2 end 2 k e).1, record { reached = s; led = refl; within = h })

two_at : (p m end : ℕ) (s : Reading) (ws : List Word) (k : ℕ) → run p m end s ws ≡ refused 2 k → StuckAt s ws k ⊎ ((k ≡ end) × EndsAt s ws)
two_at p m end s [] k e = inr (run_end p m end s k (at s outside) refl e)
two_at p m end s (w ∷ ws) k e = go (tried p m s w.kind) refl e (λ t x. two_at p m end t ws k x)
  where
    go : (x : Step) → tried p m s w.kind ≡ x
        → ◌≡◌ {A = Read} (elim x [ stops n ↦ refused n w.at | goes t ↦ run p m end t ws ]) (refused 2 k)
        → ((t : Reading) → run p m end t ws ≡ refused 2 k → StuckAt t ws k ⊎ ((k ≡ end) × EndsAt t ws))
        → StuckAt s (w ∷ ws) k ⊎ ((k ≡ end) × EndsAt s (w ∷ ws))
    go (stops n) h i r =
        let j = refused_is n w.at 2 k i in
        let b = smallest_two (is w.kind alien) (allowed s w.kind) (is w.kind bad) (long w.kind) (given s w.kind) (lacking s w.kind) (over p m (moved s w.kind)) (moved s w.kind) (h ∙ ap stops j.0) in
        inl (record { before = []; word = w; rest = ws; split = refl; there = j.1; reached = s; led = refl; barred = and_left (allowed s w.kind) (not (is w.kind bad)) b })
    go (goes t) h i r =
        let f = goes_fine p m s w.kind t h in
        elim (r t i) [ inl g ↦ inl (stuck_later s w ws t k f.0 f.1 g) | inr g ↦ inr (g.0, ends_later s w ws t f.0 f.1 g.1) ]

pub refusal_two : RefusalTwo
unfolding reading
refusal_two p m text k e =
    elim (two_at p m (length text) blank_reading (words text) k e) [
      | inl g ↦ inl (record {
        before = g.before;
        word = g.word;
        rest = g.rest;
        split = g.split;
        there = g.there;
        good = continues (kinds g.before) g.reached g.led;
        out = stuck (kinds g.before) g.reached g.word.kind g.led g.barred;
      })
      | inr g ↦ inr (
        g.0,
        record {
          good = continues (kinds (words text)) g.1.reached g.1.led;
          none = unfinished (kinds (words text)) g.1.reached g.1.led g.1.within;
        },
      )
    ]
