-- The limits along derivations, both ways.
use Rattle.std.proofs.Common.{◌≡◌, ℕ, ◌+◌, ◌<◌, ◌≤◌, Bool, false, not, ltb, List, [], ◌∷◌, ◌++◌, map, length, sym, refl, ap, ◌∙◌, subst, arith, length-append}
use Rattle.std.proofs.lemmas.List.{append-nil, append_assoc, map-append, length-map, length_push}
use Rattle.std.proofs.lemmas.Bool.{or_parts, or_from, not-false, ltb-false, le-ltb}
use Rattle.rows.specs.declared.row.Place.{Place}
use Rattle.rows.specs.declared.row.Place.TheVariants.{Nil, Act, Wait, Sum as SumRow}
use Rattle.rows.specs.declared.row.ModuleRow.{ModuleRow}
use Rattle.book_words.specs.Words.{same, Kind}
use Rattle.book_words.specs.Words.Kind.{plus, equals, ends, closes, leave, name}
use Rattle.book_grammar.specs.Grammar.{Tree, Equation, Module, Term, Sum, Equations, Book}
use Rattle.book_grammar.specs.Grammar.Tree.{nought, called, waits, acts, both, group}
use Rattle.book_grammar.specs.Grammar.Term.{term_nil, term_name, term_wait, term_act, term_group}
use Rattle.book_grammar.specs.Grammar.Sum.{sum_one, sum_more}
use Rattle.book_grammar.specs.Grammar.Equations.{last_equation, more_equations}
use Rattle.book_grammar.specs.Grammar.Book.{no_module, more_modules}
use Rattle.book_grammar.specs.Rows.{Row, newest, laid, Side, side, rows_after, sides_after, settled, module_row, places_after}
use Rattle.book_grammar.specs.Rows.Row.{plain, named}
use Rattle.book_grammar.specs.Reading.{Open, Reading, on, around, finished, parens, moved}
use Rattle.book_grammar.specs.Reading.State.{title, brace, left, equal, term, point, after}
use Rattle.book_grammar.specs.Reading.Open.{waiting, acting, adding, paren}
use Rattle.book_grammar.specs.Reading.{long, given, lacking, over, begun, lost, lefts}
use Rattle.action.specs.Lists.{any}
use Rattle.book_grammar.specs.Limits.{calls, deep, Short, Each, Apart, Among, FitsEquation, lefts_of, FitsModule}
use Rattle.book_grammar.proofs.Free.{at_left, at_outside, Closed, sided_last}

-- a word breaks no limit and no rule of names
pub record Passes (p m : ℕ) (s : Reading) (w : Kind) : Type 0 where
  pub short : long w ≡ false
  pub new : given s w ≡ false
  pub known : lacking s w ≡ false
  pub within : over p m (moved s w) ≡ false

abbrev pub Passed : ℕ → ℕ → Reading → List Kind → Type 0
Passed p m s [] = Unit {0}
Passed p m s (w ∷ ws) = Passes p m s w × Passed p m (moved s w) ws

pub record Bounds (p m : ℕ) (s : Reading) : Type 0 where
  pub titles : begun s ≤ 64
  pub lent : begun s ≤ m
  pub sides : length s.sides ≤ 64
  pub rows : length s.rows ≤ 256
  pub room : length s.places + length s.rows ≤ p
  pub nested : parens s.opened ≤ 32

pub within_bounds : (p m : ℕ) (s : Reading) → Bounds p m s → over p m s ≡ false
within_bounds p m s b =
    or_from _ _ (le-ltb 64 (begun s) b.titles) (or_from _ _ (le-ltb m (begun s) b.lent) (or_from _ _ (le-ltb 64 (length s.sides) b.sides)
    (or_from _ _ (le-ltb 256 (length s.rows) b.rows) (or_from _ _ (le-ltb p (length s.places + length s.rows) b.room) (le-ltb 32 (parens s.opened) b.nested)))))

pub bounds_of : (p m : ℕ) (s : Reading) → over p m s ≡ false → Bounds p m s
bounds_of p m s e =
    let a = or_parts (ltb 64 (begun s)) _ e in
    let b = or_parts (ltb m (begun s)) _ a.1 in
    let c = or_parts (ltb 64 (length s.sides)) _ b.1 in
    let d = or_parts (ltb 256 (length s.rows)) _ c.1 in
    let f = or_parts (ltb p (length s.places + length s.rows)) _ d.1 in
    record {
      titles = ltb-false 64 (begun s) a.0;
      lent = ltb-false m (begun s) b.0;
      sides = ltb-false 64 (length s.sides) c.0;
      rows = ltb-false 256 (length s.rows) d.0;
      room = ltb-false p (length s.places + length s.rows) f.0;
      nested = ltb-false 32 (parens s.opened) f.1;
    }

pub laid_grows : (t : Tree) (R : List Row) → length R < length (laid t R)
laid_grows nought R = omega (arith, length_push R (plain Nil))
laid_grows (called x) R = omega (arith, length_push R (named x))
laid_grows (waits t) R = omega (arith, length_push (laid t R) (plain (Wait (newest (laid t R)))), laid_grows t R)
laid_grows (acts a t) R = omega (arith, length_push (laid t R) (plain (Act a (newest (laid t R)))), laid_grows t R)
laid_grows (both l r) R =
    omega (arith, length_push (laid r (laid l R)) (plain (SumRow (newest (laid l R)) (newest (laid r (laid l R))))), laid_grows l R, laid_grows r (laid l R))
laid_grows (group t) R = laid_grows t R

finished_grows : (os : List Open) (R : List Row) → length R ≤ length (finished os R)
finished_grows [] R = omega arith
finished_grows (waiting ∷ os) R = omega (arith, length_push R (plain (Wait (newest R))), finished_grows os (R ++ plain (Wait (newest R)) ∷ []))
finished_grows (acting a ∷ os) R = omega (arith, length_push R (plain (Act a (newest R))), finished_grows os (R ++ plain (Act a (newest R)) ∷ []))
finished_grows (adding k ∷ os) R = omega (arith, length_push R (plain (SumRow k (newest R))), finished_grows os (R ++ plain (SumRow k (newest R)) ∷ []))
finished_grows (paren ∷ os) R = omega arith

pub parens_around : (os : List Open) → parens (around os) ≡ parens os
parens_around [] = refl
parens_around (waiting ∷ os) = parens_around os
parens_around (acting a ∷ os) = parens_around os
parens_around (adding k ∷ os) = parens_around os
parens_around (paren ∷ os) = refl

pub each_split : {A : Type 0} (P : A → Type 0) (xs ys : List A) → Each P (xs ++ ys) → Each P xs × Each P ys
each_split P [] ys h = (tt, h)
each_split P (x ∷ xs) ys h = let r = each_split P xs ys h.1 in ((h.0, r.0), r.1)

pub each_join : {A : Type 0} (P : A → Type 0) (xs ys : List A) → Each P xs → Each P ys → Each P (xs ++ ys)
each_join P [] ys h k = k
each_join P (x ∷ xs) ys h k = (h.0, each_join P xs ys h.1 k)

module _ (p m : ℕ) where
  -- what stays the same within an equation
  record Calm (s : Reading) : Type 0 where
    titles : length s.titles ≤ 64
    lent : length s.titles ≤ m
    sides : length s.sides ≤ 64

  -- what a right side fills
  record Space (s : Reading) (os : List Open) (R : List Row) (d : ℕ) : Type 0 where
    rows : length R ≤ 256
    room : length s.places + length R ≤ p
    nested : parens os + d ≤ 32

  calm_term : (s : Reading) (os : List Open) (R : List Row) → Calm s → length R ≤ 256 → length s.places + length R ≤ p → parens os ≤ 32 → over p m (on s term os R) ≡ false
  calm_term s os R c a b d = within_bounds p m (on s term os R) (record { titles = omega (arith, c.titles); lent = omega (arith, c.lent); sides = c.sides; rows = a; room = b; nested = d })

  calm_point : (s : Reading) (os : List Open) (R : List Row) → Calm s → length R ≤ 256 → length s.places + length R ≤ p → parens os ≤ 32 → over p m (on s point os R) ≡ false
  calm_point s os R c a b d = within_bounds p m (on s point os R) (record { titles = omega (arith, c.titles); lent = omega (arith, c.lent); sides = c.sides; rows = a; room = b; nested = d })

  calm_after : (s : Reading) (os : List Open) (R : List Row) → Calm s → length R ≤ 256 → length s.places + length R ≤ p → parens os ≤ 32 → over p m (on s after os R) ≡ false
  calm_after s os R c a b d = within_bounds p m (on s after os R) (record { titles = omega (arith, c.titles); lent = omega (arith, c.lent); sides = c.sides; rows = a; room = b; nested = d })

  calm_equal : (s : Reading) (os : List Open) (R : List Row) → Calm s → length R ≤ 256 → length s.places + length R ≤ p → parens os ≤ 32 → over p m (on s equal os R) ≡ false
  calm_equal s os R c a b d = within_bounds p m (on s equal os R) (record { titles = omega (arith, c.titles); lent = omega (arith, c.lent); sides = c.sides; rows = a; room = b; nested = d })

  calm_left : (s : Reading) (os : List Open) (R : List Row) → Calm s → length R ≤ 256 → length s.places + length R ≤ p → parens os ≤ 32 → over p m (on s left os R) ≡ false
  calm_left s os R c a b d = within_bounds p m (on s left os R) (record { titles = omega (arith, c.titles); lent = omega (arith, c.lent); sides = c.sides; rows = a; room = b; nested = d })

  calm_brace : (s : Reading) (os : List Open) (R : List Row) → Calm s → length R ≤ 256 → length s.places + length R ≤ p → parens os ≤ 32 → over p m (on s brace os R) ≡ false
  calm_brace s os R c a b d = within_bounds p m (on s brace os R) (record { titles = omega (arith, c.titles); lent = omega (arith, c.lent); sides = c.sides; rows = a; room = b; nested = d })

  mutual
    term_passes : {u : List Kind} {t : Tree} → Term u t → (s : Reading) (os : List Open) (R : List Row) (v : List Kind)
        → Calm s → Each Short (calls t) → Space s os (finished os (laid t R)) (deep t)
        → Passed p m (on s after (around os) (finished os (laid t R))) v → Passed p m (on s term os R) (u ++ v)
    term_passes term_nil s os R v c n f r =
        (record { short = refl; new = refl; known = refl; within = calm_after s (around os) _ c f.rows f.room (omega (arith, f.nested, parens_around os)) }, r)
    term_passes (term_name x) s os R v c n f r =
        (record { short = le-ltb 16 (length x) n.0; new = refl; known = refl; within = calm_after s (around os) _ c f.rows f.room (omega (arith, f.nested, parens_around os)) }, r)
    term_passes (term_wait {t} d) s os R v c n f r =
        let g = laid_grows t R in
        let k = finished_grows (waiting ∷ os) (laid t R) in
        let a : length R ≤ 256 = omega (arith, f.rows) in
        let b : length s.places + length R ≤ p = omega (arith, f.room) in
        let q : parens os ≤ 32 = omega (arith, f.nested) in (
          record { short = refl; new = refl; known = refl; within = calm_point s (waiting ∷ os) R c a b q },
          (
            record { short = refl; new = refl; known = refl; within = calm_term s (waiting ∷ os) R c a b q },
            term_passes d s (waiting ∷ os) R v c n (record { rows = f.rows; room = f.room; nested = f.nested }) r,
          ),
        )
    term_passes (term_act a' {t} d) s os R v c n f r =
        let g = laid_grows t R in
        let k = finished_grows (acting a' ∷ os) (laid t R) in
        let a : length R ≤ 256 = omega (arith, f.rows) in
        let b : length s.places + length R ≤ p = omega (arith, f.room) in
        let q : parens os ≤ 32 = omega (arith, f.nested) in (
          record { short = refl; new = refl; known = refl; within = calm_point s (acting a' ∷ os) R c a b q },
          (
            record { short = refl; new = refl; known = refl; within = calm_term s (acting a' ∷ os) R c a b q },
            term_passes d s (acting a' ∷ os) R v c n (record { rows = f.rows; room = f.room; nested = f.nested }) r,
          ),
        )
    term_passes (term_group {u} {t} d) s os R v c n f r =
        let g = laid_grows t R in
        let k = finished_grows os (laid t R) in
        let a : length R ≤ 256 = omega (arith, f.rows) in
        let b : length s.places + length R ≤ p = omega (arith, f.room) in (
          record { short = refl; new = refl; known = refl; within = calm_term s (paren ∷ os) R c a b (omega (arith, f.nested)) },
          subst (λ (y : List Kind). Passed p m (on s term (paren ∷ os) R) y) (sym (append_assoc u (closes ∷ []) v))
              (sum_passes d s (paren ∷ os) R (closes ∷ v) (refl, λ X. refl) c n
              (record { rows = omega (arith, f.rows); room = omega (arith, f.room); nested = omega (arith, f.nested) })
              (record { short = refl; new = refl; known = refl; within = calm_after s (around os) _ c f.rows f.room (omega (arith, f.nested, parens_around os)) }, r)),
        )

    sum_passes : {u : List Kind} {t : Tree} → Sum u t → (s : Reading) (os : List Open) (R : List Row) (v : List Kind) → Closed os
        → Calm s → Each Short (calls t) → Space s os (laid t R) (deep t)
        → Passed p m (on s after os (laid t R)) v → Passed p m (on s term os R) (u ++ v)
    sum_passes (sum_one {t} d) s os R v o c n f r =
        let e = o.1 (laid t R) in
        term_passes d s os R v c n
        (subst (λ (X : List Row). Space s os X (deep t)) (sym e) f)
        (subst (λ (X : List Row). Passed p m (on s after (around os) X) v) (sym e) (subst (λ (y : List Open). Passed p m (on s after y (laid t R)) v) (sym o.0) r))
    sum_passes (sum_more {u} {v = w} {l} {r = t} d e) s os R v o c n f r =
        let j = o.1 (laid (both l t) R) in
        let g = laid_grows t (laid l R) in
        let h = length_push (laid t (laid l R)) (plain (SumRow (newest (laid l R)) (newest (laid t (laid l R))))) in
        let a : length (laid l R) ≤ 256 = omega (arith, f.rows) in
        let b : length s.places + length (laid l R) ≤ p = omega (arith, f.room) in
        let ns = each_split Short (calls l) (calls t) n in
        subst (λ (y : List Kind). Passed p m (on s term os R) y) (sym (append_assoc u (plus ∷ w) v))
        (sum_passes d s os R (plus ∷ (w ++ v)) o c ns.0 (record { rows = a; room = b; nested = omega (arith, f.nested) }) (
          record { short = refl; new = refl; known = refl; within = calm_term s (adding (newest (laid l R)) ∷ os) (laid l R) c a b (omega (arith, f.nested)) },
          term_passes e s (adding (newest (laid l R)) ∷ os) (laid l R) v c ns.1
              (subst (λ (X : List Row). Space s (adding (newest (laid l R)) ∷ os) X (deep t)) (sym j) (record { rows = f.rows; room = f.room; nested = omega (arith, f.nested) }))
              (subst (λ (X : List Row). Passed p m (on s after (around os) X) v) (sym j) (subst (λ (y : List Open). Passed p m (on s after y (laid (both l t) R)) v) (sym o.0) r)),
        ))

  mutual
    term_passed : {u : List Kind} {t : Tree} → Term u t → (s : Reading) (os : List Open) (R : List Row) (v : List Kind)
        → Passed p m (on s term os R) (u ++ v)
        → Each Short (calls t) × (parens os + deep t ≤ 32) × Passed p m (on s after (around os) (finished os (laid t R))) v
    term_passed term_nil s os R v h =
        let b = bounds_of p m (on s after (around os) (finished os (R ++ plain Nil ∷ []))) h.0.within in
        (tt, omega (arith, b.nested, parens_around os), h.1)
    term_passed (term_name x) s os R v h =
        let b = bounds_of p m (on s after (around os) (finished os (R ++ named x ∷ []))) h.0.within in
        ((ltb-false 16 (length x) h.0.short, tt), omega (arith, b.nested, parens_around os), h.1)
    term_passed (term_wait d) s os R v h = term_passed d s (waiting ∷ os) R v h.1.1
    term_passed (term_act a d) s os R v h = term_passed d s (acting a ∷ os) R v h.1.1
    term_passed (term_group {u} d) s os R v h =
        let g = sum_passed d s (paren ∷ os) R (closes ∷ v) (refl, λ X. refl) (subst (λ (y : List Kind). Passed p m (on s term (paren ∷ os) R) y) (append_assoc u (closes ∷ []) v) h.1) in
        (g.0, omega (arith, g.1), g.2.1)

    sum_passed : {u : List Kind} {t : Tree} → Sum u t → (s : Reading) (os : List Open) (R : List Row) (v : List Kind) → Closed os
        → Passed p m (on s term os R) (u ++ v)
        → Each Short (calls t) × (parens os + deep t ≤ 32) × Passed p m (on s after os (laid t R)) v
    sum_passed (sum_one {t} d) s os R v o h =
        let g = term_passed d s os R v h in
        (g.0, g.1, subst (λ (y : List Open). Passed p m (on s after y (laid t R)) v) o.0 (subst (λ (X : List Row). Passed p m (on s after (around os) X) v) (o.1 (laid t R)) g.2))
    sum_passed (sum_more {u} {v = w} {l} {r = t} d e) s os R v o h =
        let f = sum_passed d s os R (plus ∷ (w ++ v)) o (subst (λ (y : List Kind). Passed p m (on s term os R) y) (append_assoc u (plus ∷ w) v) h) in
        let g = term_passed e s (adding (newest (laid l R)) ∷ os) (laid l R) v f.2.1 in (
          each_join Short (calls l) (calls t) f.0 g.0,
          omega (arith, f.1, g.1),
          subst (λ (y : List Open). Passed p m (on s after y (laid (both l t) R)) v) o.0
              (subst (λ (X : List Row). Passed p m (on s after (around os) X) v) (o.1 (laid (both l t) R)) g.2),
        )

  -- an equation
  eq_passes : (x : List ℕ) {u : List Kind} {t : Tree} → Sum u t → (s : Reading) (R : List Row) (E : List Side) (v : List Kind)
      → length s.titles ≤ 64 → length s.titles ≤ m → length E < 64 → Short x → any (same x) (lefts E) ≡ false
      → Each Short (calls t) → deep t ≤ 32 → length (laid t R) ≤ 256 → length s.places + length (laid t R) ≤ p
      → Passed p m (at_left s (laid t R) (E ++ side x (newest (laid t R)) ∷ [])) v
      → Passed p m (at_left s R E) (name x ∷ equals ∷ (u ++ ends ∷ v))
  eq_passes x {u} {t} d s R E v t1 t2 few sx new names dt rows room r =
      let s' = at_left s R (E ++ side x 0 ∷ []) in
      let k = newest (laid t R) in
      let g = laid_grows t R in
      let ls : length (E ++ side x 0 ∷ []) ≤ 64 = omega (arith, length_push E (side x 0)) in
      let ls2 : length (E ++ side x k ∷ []) ≤ 64 = omega (arith, length_push E (side x k)) in
      let c : Calm s' = record { titles = t1; lent = t2; sides = ls } in
      let c2 : Calm (at_left s (laid t R) (E ++ side x k ∷ [])) = record { titles = t1; lent = t2; sides = ls2 } in
      let a : length R ≤ 256 = omega arith in
      let b : length s.places + length R ≤ p = omega arith in
      let j = subst (λ (S : List Side). (over p m (at_left s (laid t R) S) ≡ false) × Passed p m (at_left s (laid t R) S) v) (sym (sided_last E x 0 k))
      (calm_left (at_left s (laid t R) (E ++ side x k ∷ [])) [] (laid t R) c2 rows room (omega arith), r) in (
        record { short = le-ltb 16 (length x) sx; new = new; known = refl; within = calm_equal s' [] R c a b (omega arith) },
        (
          record { short = refl; new = refl; known = refl; within = calm_term s' [] R c a b (omega arith) },
          sum_passes d s' [] R (ends ∷ v) (refl, λ X. refl) c names (record { rows = rows; room = room; nested = omega arith })
              (record { short = refl; new = refl; known = refl; within = j.0 }, j.1),
        ),
      )

  record EqPassed (s : Reading) (x : List ℕ) (t : Tree) (R : List Row) (E : List Side) (v : List Kind) : Type 0 where
    fits : FitsEquation (record { left = x; right = t })
    new : any (same x) (lefts E) ≡ false
    bounds : Bounds p m (at_left s (laid t R) (E ++ side x (newest (laid t R)) ∷ []))
    more : Passed p m (at_left s (laid t R) (E ++ side x (newest (laid t R)) ∷ [])) v

  eq_passed : (x : List ℕ) {u : List Kind} {t : Tree} → Sum u t → (s : Reading) (R : List Row) (E : List Side) (v : List Kind)
      → Passed p m (at_left s R E) (name x ∷ equals ∷ (u ++ ends ∷ v)) → EqPassed s x t R E v
  eq_passed x {u} {t} d s R E v h =
      let s' = at_left s R (E ++ side x 0 ∷ []) in
      let k = newest (laid t R) in
      let g = sum_passed d s' [] R (ends ∷ v) (refl, λ X. refl) h.1.1 in
      let j = subst (λ (S : List Side). (over p m (at_left s (laid t R) S) ≡ false) × Passed p m (at_left s (laid t R) S) v) (sided_last E x 0 k) (g.2.0.within, g.2.1) in
      record {
        fits = record { left_short = ltb-false 16 (length x) h.0.short; names_short = g.0; nested = omega (arith, g.1) };
        new = h.0.new;
        bounds = bounds_of p m _ j.0;
        more = j.1;
      }

  rows_grow : (es : List Equation) (R : List Row) → length R ≤ length (rows_after es R)
  rows_grow [] R = omega arith
  rows_grow (e ∷ es) R = omega (arith, laid_grows e.right R, rows_grow es (laid e.right R))

  lefts_push : (E : List Side) (x : List ℕ) (k : ℕ) → lefts (E ++ side x k ∷ []) ≡ lefts E ++ x ∷ []
  lefts_push E x k = map-append (λ (s : Side). s.left) E (side x k ∷ [])

  eqs_pass : {u : List Kind} {es : List Equation} → Equations u es → (s : Reading) (R : List Row) (E : List Side) (v : List Kind)
      → length s.titles ≤ 64 → length s.titles ≤ m → length E + length es ≤ 64 → Each FitsEquation es → Apart (lefts E) (lefts_of es)
      → length (rows_after es R) ≤ 256 → length s.places + length (rows_after es R) ≤ p
      → Passed p m (at_left s (rows_after es R) (sides_after es R E)) v → Passed p m (at_left s R E) (u ++ v)
  eqs_pass (last_equation x {u} {t} d) s R E v t1 t2 few f a rows room r =
      subst (λ (y : List Kind). Passed p m (at_left s R E) (name x ∷ equals ∷ y)) (sym (append_assoc u (ends ∷ []) v))
      (eq_passes x d s R E v t1 t2 (omega arith) f.0.left_short a.0 f.0.names_short f.0.nested rows room r)
  eqs_pass (more_equations x {u} {v = w} {t} {es} d e) s R E v t1 t2 few f a rows room r =
      let g = rows_grow es (laid t R) in
      let E' = E ++ side x (newest (laid t R)) ∷ [] in
      subst (λ (y : List Kind). Passed p m (at_left s R E) (name x ∷ equals ∷ y)) (sym (append_assoc u (ends ∷ w) v))
      (eq_passes x d s R E (w ++ v) t1 t2 (omega arith) f.0.left_short a.0 f.0.names_short f.0.nested (omega arith) (omega arith)
      (eqs_pass e s (laid t R) E' v t1 t2 (omega (arith, length_push E (side x (newest (laid t R))))) f.1
      (subst (λ (y : List (List ℕ)). Apart y (lefts_of es)) (sym (lefts_push E x (newest (laid t R)))) a.1) rows room r))

  record EqsPassed (s : Reading) (es : List Equation) (R : List Row) (E : List Side) (v : List Kind) : Type 0 where
    fits : Each FitsEquation es
    apart : Apart (lefts E) (lefts_of es)
    bounds : Bounds p m (at_left s (rows_after es R) (sides_after es R E))
    more : Passed p m (at_left s (rows_after es R) (sides_after es R E)) v

  eqs_passed : {u : List Kind} {es : List Equation} → Equations u es → (s : Reading) (R : List Row) (E : List Side) (v : List Kind)
      → Passed p m (at_left s R E) (u ++ v) → EqsPassed s es R E v
  eqs_passed (last_equation x {u} {t} d) s R E v h =
      let g = eq_passed x d s R E v (subst (λ (y : List Kind). Passed p m (at_left s R E) (name x ∷ equals ∷ y)) (append_assoc u (ends ∷ []) v) h) in
      record { fits = (g.fits, tt); apart = (g.new, tt); bounds = g.bounds; more = g.more }
  eqs_passed (more_equations x {u} {v = w} {t} {es} d e) s R E v h =
      let g = eq_passed x d s R E (w ++ v) (subst (λ (y : List Kind). Passed p m (at_left s R E) (name x ∷ equals ∷ y)) (append_assoc u (ends ∷ w) v) h) in
      let f = eqs_passed e s (laid t R) (E ++ side x (newest (laid t R)) ∷ []) v g.more in
      record { fits = (g.fits, f.fits); apart = (g.new, subst (λ (y : List (List ℕ)). Apart y (lefts_of es)) (lefts_push E x (newest (laid t R))) f.apart); bounds = f.bounds; more = f.more }

  length_sides : (es : List Equation) (R : List Row) (E : List Side) → length (sides_after es R E) ≡ length E + length es
  length_sides [] R E = omega arith
  length_sides (e ∷ es) R E = omega (arith, length_sides es (laid e.right R) (E ++ side e.left (newest (laid e.right R)) ∷ []), length_push E (side e.left (newest (laid e.right R))))

  lefts_after : (es : List Equation) (R : List Row) (E : List Side) → lefts (sides_after es R E) ≡ lefts E ++ lefts_of es
  lefts_after [] R E = sym (append-nil (lefts E))
  lefts_after (e ∷ es) R E =
      let k = newest (laid e.right R) in
      lefts_after es (laid e.right R) (E ++ side e.left k ∷ [])
      ∙ ap (λ (y : List (List ℕ)). y ++ lefts_of es) (lefts_push E e.left k) ∙ append_assoc (lefts E) (e.left ∷ []) (lefts_of es)

  any_push : {A : Type 0} (f : A → Bool) (xs : List A) (y : A) → any f xs ≡ false → f y ≡ false → any f (xs ++ y ∷ []) ≡ false
  any_push f [] y a b = or_from (f y) false b refl
  any_push f (x ∷ xs) y a b = let h = or_parts (f x) (any f xs) a in or_from (f x) _ h.0 (any_push f xs y h.1 b)

  any_parts : {A : Type 0} (f : A → Bool) (xs : List A) (y : A) → any f (xs ++ y ∷ []) ≡ false → (any f xs ≡ false) × (f y ≡ false)
  any_parts f [] y h = (refl, (or_parts (f y) false h).0)
  any_parts f (x ∷ xs) y h =
      let a = or_parts (f x) (any f (xs ++ y ∷ [])) h in
      let b = any_parts f xs y a.1 in
      (or_from (f x) (any f xs) a.0 b.0, b.1)

  known_laid : (F : List Side) (t : Tree) (R : List Row) → any (lost F) R ≡ false → Each (Among (lefts F)) (calls t) → any (lost F) (laid t R) ≡ false
  known_laid F nought R h k = any_push (lost F) R (plain Nil) h refl
  known_laid F (called x) R h k = any_push (lost F) R (named x) h (ap not k.0)
  known_laid F (waits t) R h k = any_push (lost F) (laid t R) _ (known_laid F t R h k) refl
  known_laid F (acts a t) R h k = any_push (lost F) (laid t R) _ (known_laid F t R h k) refl
  known_laid F (both l r) R h k =
      let s = each_split (Among (lefts F)) (calls l) (calls r) k in
      any_push (lost F) (laid r (laid l R)) _ (known_laid F r (laid l R) (known_laid F l R h s.0) s.1) refl
  known_laid F (group t) R h k = known_laid F t R h k

  laid_known : (F : List Side) (t : Tree) (R : List Row) → any (lost F) (laid t R) ≡ false → (any (lost F) R ≡ false) × Each (Among (lefts F)) (calls t)
  laid_known F nought R h = ((any_parts (lost F) R (plain Nil) h).0, tt)
  laid_known F (called x) R h = let a = any_parts (lost F) R (named x) h in (a.0, (not-false (any (same x) (lefts F)) a.1, tt))
  laid_known F (waits t) R h = laid_known F t R (any_parts (lost F) (laid t R) _ h).0
  laid_known F (acts a t) R h = laid_known F t R (any_parts (lost F) (laid t R) _ h).0
  laid_known F (both l r) R h =
      let a = laid_known F r (laid l R) (any_parts (lost F) (laid r (laid l R)) _ h).0 in
      let b = laid_known F l R a.0 in
      (b.0, each_join (Among (lefts F)) (calls l) (calls r) b.1 a.1)
  laid_known F (group t) R h = laid_known F t R h

  known_rows : (F : List Side) (es : List Equation) (R : List Row) → any (lost F) R ≡ false → Each (λ (e : Equation). Each (Among (lefts F)) (calls e.right)) es → any (lost F) (rows_after es R) ≡ false
  known_rows F [] R h k = h
  known_rows F (e ∷ es) R h k = known_rows F es (laid e.right R) (known_laid F e.right R h k.0) k.1

  rows_known : (F : List Side) (es : List Equation) (R : List Row) → any (lost F) (rows_after es R) ≡ false → (any (lost F) R ≡ false) × Each (λ (e : Equation). Each (Among (lefts F)) (calls e.right)) es
  rows_known F [] R h = (h, tt)
  rows_known F (e ∷ es) R h =
      let a = rows_known F es (laid e.right R) h in
      let b = laid_known F e.right R a.0 in
      (b.0, (b.1, a.1))

  places_grow : (ms : List Module) (P : List Place) → length P ≤ length (places_after ms P)
  places_grow [] P = omega arith
  places_grow (md ∷ ms) P =
      let X = map (settled (sides_after md.equations [] [])) (rows_after md.equations []) in
      omega (arith, length-append P X, places_grow ms (P ++ X))

  abbrev pub titles_of : List Module → List (List ℕ)
  titles_of ms = map (λ (md : Module). md.title) ms

  pub book_passes : {u : List Kind} {ms : List Module} → Book u ms → (T : List (List ℕ)) (P : List Place) (M : List ModuleRow)
      → length T + length ms ≤ 64 → length T + length ms ≤ m → Apart T (titles_of ms) → Each FitsModule ms → length (places_after ms P) ≤ p
      → Passed p m (at_outside T P M) u
  book_passes no_module T P M a b c d e = tt
  book_passes (more_modules x {u} {v} {es} {ms} d f) T P M a b c fit room =
      let T' = T ++ x ∷ [] in
      let lt : length T' ≡ length T + 1 = length_push T x in
      let E = sides_after es [] [] in
      let R = rows_after es [] in
      let X = map (settled E) R in
      let s = at_outside T' P M in
      let lx : length X ≡ length R = length-map R (settled E) in
      let lp = length-append P X in
      let g = places_grow ms (P ++ X) in
      let calm : Calm s = record { titles = omega arith; lent = omega arith; sides = omega arith } in
      let le : lefts E ≡ lefts_of es = lefts_after es [] [] in
      let known : any (lost E) R ≡ false = known_rows E es [] refl (subst (λ (y : List (List ℕ)). Each (λ (e : Equation). Each (Among y) (calls e.right)) es) (sym le) fit.0.known) in
      let out : over p m (at_outside T' (P ++ X) (M ++ module_row (length P) R E ∷ [])) ≡ false =
      within_bounds p m (at_outside T' (P ++ X) (M ++ module_row (length P) R E ∷ [])) (record { titles = omega arith; lent = omega arith; sides = omega arith; rows = omega arith; room = omega arith; nested = omega arith }) in (
        record { short = refl; new = refl; known = refl; within = within_bounds p m (on (at_outside T P M) title [] []) (record { titles = omega arith; lent = omega arith; sides = omega arith; rows = omega arith; room = omega arith; nested = omega arith }) },
        (
          record { short = le-ltb 16 (length x) fit.0.title_short; new = c.0; known = refl; within = calm_brace s [] [] calm (omega arith) (omega arith) (omega arith) },
          (
            record { short = refl; new = refl; known = refl; within = calm_left s [] [] calm (omega arith) (omega arith) (omega arith) },
            eqs_pass d s [] [] (leave ∷ v) (omega arith) (omega arith) (omega (arith, fit.0.few)) fit.0.each fit.0.apart fit.0.places (omega arith) (
              record { short = refl; new = refl; known = known; within = out },
              book_passes f T' (P ++ X) _ (omega arith) (omega arith) c.1 fit.1 room,
            ),
          ),
        ),
      )

  pub record BookPassed (T : List (List ℕ)) (P : List Place) (ms : List Module) : Type 0 where
    pub few : length T + length ms ≤ 64
    pub lent : length T + length ms ≤ m
    pub apart : Apart T (titles_of ms)
    pub each : Each FitsModule ms
    pub room : length (places_after ms P) ≤ p

  pub book_passed : {u : List Kind} {ms : List Module} → Book u ms → (T : List (List ℕ)) (P : List Place) (M : List ModuleRow)
      → length T ≤ 64 → length T ≤ m → length P ≤ p → Passed p m (at_outside T P M) u → BookPassed T P ms
  book_passed no_module T P M a b c h = record { few = omega arith; lent = omega arith; apart = tt; each = tt; room = c }
  book_passed (more_modules x {u} {v} {es} {ms} d f) T P M a b c h =
      let T' = T ++ x ∷ [] in
      let lt : length T' ≡ length T + 1 = length_push T x in
      let E = sides_after es [] [] in
      let R = rows_after es [] in
      let X = map (settled E) R in
      let s = at_outside T' P M in
      let g = eqs_passed d s [] [] (leave ∷ v) h.1.1.1 in
      let o = bounds_of p m (at_outside T' (P ++ X) (M ++ module_row (length P) R E ∷ [])) g.more.0.within in
      let le : lefts E ≡ lefts_of es = lefts_after es [] [] in
      let k = (rows_known E es [] g.more.0.known).1 in
      let r = book_passed f T' (P ++ X) _ (omega (arith, o.titles)) (omega (arith, o.lent)) (omega (arith, o.room)) g.more.1 in
      let one : FitsModule (record { title = x; equations = es }) = record {
        title_short = ltb-false 16 (length x) h.1.0.short;
        few = omega (arith, g.bounds.sides, length_sides es [] []);
        apart = g.apart;
        each = g.fits;
        known = subst (λ (y : List (List ℕ)). Each (λ (e : Equation). Each (Among y) (calls e.right)) es) le k;
        places = g.bounds.rows;
      } in
      record { few = omega (arith, r.few); lent = omega (arith, r.lent); apart = (h.1.0.new, r.apart); each = (one, r.each); room = r.room }
