-- Where each slot's module is tied to the one that stood there, the line is tied to the line that it was. Assumes nothing.
use Rattle.std.proofs.Common.{◌≡◌, ℕ, ◌<◌, ◌≤◌, Bool, false, ◌&&◌, T, eqb, ◌⊎◌, List, length, get_or, set, ℤ, pos, nat_abs, Some, sym, refl, ap, ◌∙◌, subst, inl, inr, arith, eqb→eq, length-set}
use native.Mathlib.Decide.{ℕ_discrete}
use lib.ListN.{length-map}
use Rattle.std.proofs.lemmas.List.{get_or-set_same, get_or-set_other, get_or-map}
use Rattle.std.proofs.lemmas.Bool.{cases_lt}
use Rattle.action.specs.Lists.{every}
use Rattle.action.specs.Action.{internal, Opposite}
use Rattle.action.specs.declared.set.ActionSet.{ActionSet}
use Rattle.action.specs.Sets.{◌∋◌}
use Rattle.action.proofs.Basics.{and_l, and_r, and_i, eq-eqb}
use Rattle.renaming.specs.Renaming.{renamed}
use Rattle.catalogue.specs.Catalogue.{Catalogue, state, module_in}
use Rattle.catalogue.specs.Systems.{running, Clauses, Ties, Tied}
use Rattle.line_rules.specs.Line.{Slot, Line, no_slot, slot, inside, outward, Hidden, Urges, Ticking, starts, line_running}
use Rattle.line_rules.proofs.Slots.{every_at, at_every, passed, passed_wide, passed_at}

-- two states of n slots, related slot by slot
pub pointwise : ℕ → (ℕ → ℕ → ℕ → Bool) → List ℕ → List ℕ → Bool
pointwise n rels s t = eqb (length s) n && (eqb (length t) n && every n (λ i. rels i (get_or s i 0) (get_or t i 0)))

record Pointwise (n : ℕ) (rels : ℕ → ℕ → ℕ → Bool) (s t : List ℕ) : Type 0 where
  wide_s : length s ≡ n
  wide_t : length t ≡ n
  pairs : (i : ℕ) → i < n → T (rels i (get_or s i 0) (get_or t i 0))

of_test : (n : ℕ) (rels : ℕ → ℕ → ℕ → Bool) (s t : List ℕ) → T (pointwise n rels s t) → Pointwise n rels s t
unfolding pointwise
of_test n rels s t h =
    let e : Bool = every n (λ i. rels i (get_or s i 0) (get_or t i 0)) in
    let r = and_r (eqb (length s) n) (eqb (length t) n && e) h in
    record {
      wide_s = eqb→eq (length s) n (and_l (eqb (length s) n) (eqb (length t) n && e) h);
      wide_t = eqb→eq (length t) n (and_l (eqb (length t) n) e r);
      pairs = every_at n (λ i. rels i (get_or s i 0) (get_or t i 0)) (and_r (eqb (length t) n) e r);
    }

to_test : (n : ℕ) (rels : ℕ → ℕ → ℕ → Bool) (s t : List ℕ) → Pointwise n rels s t → T (pointwise n rels s t)
unfolding pointwise
to_test n rels s t h =
    let e : Bool = every n (λ i. rels i (get_or s i 0) (get_or t i 0)) in
    and_i (eqb (length s) n) (eqb (length t) n && e) (eq-eqb (length s) n h.wide_s)
    (and_i (eqb (length t) n) e (eq-eqb (length t) n h.wide_t) (at_every n (λ i. rels i (get_or s i 0) (get_or t i 0)) h.pairs))

-- the relations read the other way
abbrev flipped : (ℕ → ℕ → ℕ → Bool) → ℕ → ℕ → ℕ → Bool
flipped rels i y x = rels i x y

flip : (n : ℕ) (rels : ℕ → ℕ → ℕ → Bool) (s t : List ℕ) → Pointwise n rels s t → Pointwise n (flipped rels) t s
flip n rels s t h = record { wide_s = h.wide_t; wide_t = h.wide_s; pairs = h.pairs }

-- one slot of both states changes
set_both : (n : ℕ) (rels : ℕ → ℕ → ℕ → Bool) (s t : List ℕ) (i x y : ℕ) → Pointwise n rels s t → i < n → T (rels i x y) → Pointwise n rels (set s i x) (set t i y)
set_both n rels s t i x y h l r = record {
  wide_s = length-set s i x ∙ h.wide_s;
  wide_t = length-set t i y ∙ h.wide_t;
  pairs = λ j m. at_j j m (ℕ_discrete j i);
}
  where
    same_slot : T (rels i (get_or (set s i x) i 0) (get_or (set t i y) i 0))
    same_slot = rw (get_or-set_same s i x 0 (omega (arith, h.wide_s)), get_or-set_same t i y 0 (omega (arith, h.wide_t))) r

    at_j : (j : ℕ) → j < n → Dec (j ≡ i) → T (rels j (get_or (set s i x) j 0) (get_or (set t i y) j 0))
    at_j j m (yes e) = subst (λ k. T (rels k (get_or (set s i x) k 0) (get_or (set t i y) k 0))) (sym e) same_slot
    at_j j m (no d) = rw (get_or-set_other s i j x 0 d, get_or-set_other t i j y 0 d) (h.pairs j m)

-- Two lines that differ in their modules alone.
pub record Alike (one other : Line) : Type 0 where
  pub wide : length one.slots ≡ length other.slots
  pub wirings : (i : ℕ) → (slot one i).wiring ≡ (slot other i).wiring
  pub hides : one.hidden ≡ other.hidden

pub alike_through : (one between other : Line) → Alike one between → Alike between other → Alike one other
alike_through one between other f g = record { wide = f.wide ∙ g.wide; wirings = λ i. f.wirings i ∙ g.wirings i; hides = f.hides ∙ g.hides }

turned : (one other : Line) → Alike one other → Alike other one
turned one other f = record { wide = sym f.wide; wirings = λ i. sym (f.wirings i); hides = sym f.hides }

module _ (ms : Catalogue) (one other : Line) (f : Alike one other) where
  there : (i : ℕ) → i < length one.slots → i < length other.slots
  there i l = omega (arith, f.wide)

  out : (i : ℕ) (a : ℤ) → outward one i a ≡ outward other i a
  out i a = ap (λ w. renamed w a) (f.wirings i)

  shown : (a : ℤ) → ¬ Hidden one a → ¬ Hidden other a
  shown a = subst (λ (h : ActionSet). ¬ (h ∋ pos (nat_abs a))) f.hides

  meeting : (i j : ℕ) (a b : ℤ) → Opposite (outward one i a) (outward one j b) → Opposite (outward other i a) (outward other j b)
  meeting i j a b h = subst (λ z. Opposite (outward other i a) z) (out j b) (subst (λ z. Opposite z (outward one j b)) (out i a) h)

  -- where each slot's moves are answered slot by slot, so are the line's
  module _ (n : ℕ) (size : length one.slots ≡ n) (rels : ℕ → ℕ → ℕ → Bool) (s t : List ℕ) (h : Pointwise n rels s t) (answers : (i : ℕ) → i < n → (a : ℤ) (x : ℕ) → (running (inside ms one i)).Moves (get_or s i 0) a x → (y : ℕ) × (running (inside ms other i)).Moves (get_or t i 0) a y × T (rels i x y)) where
    within : (i : ℕ) → i < length one.slots → i < n
    within i l = omega (arith, size)

    lands : (s' u v : List ℕ) → s' ≡ u → Pointwise n rels u v → Pointwise n rels s' v
    lands s' u v e p = subst (λ z. Pointwise n rels z v) (sym e) p

    follows : (a : ℤ) (s' : List ℕ) → (line_running ms one).Moves s a s' → (t' : List ℕ) × (line_running ms other).Moves t a t' × Pointwise n rels s' t'
    follows a s' (inl m) =
        let q = answers m.i (within m.i m.known) m.by m.to m.moves in (
          set t m.i q.0,
          inl (record { i = m.i; by = m.by; to = q.0; known = there m.i m.known; moves = q.1; is = m.is ∙ out m.i m.by; seen = shown a m.seen; leaves = refl }),
          lands s' (set s m.i m.to) (set t m.i q.0) m.leaves (set_both n rels s t m.i m.to q.0 h (within m.i m.known) q.2),
        )
    follows a s' (inr m) =
        let q = answers m.i (within m.i m.known_i) m.by_i m.to_i m.moves_i in
        let r = answers m.j (within m.j m.known_j) m.by_j m.to_j m.moves_j in
        let first = set_both n rels s t m.i m.to_i q.0 h (within m.i m.known_i) q.2 in (
          set (set t m.i q.0) m.j r.0,
          inr (record {
            i = m.i;
            j = m.j;
            by_i = m.by_i;
            by_j = m.by_j;
            to_i = q.0;
            to_j = r.0;
            known_i = there m.i m.known_i;
            known_j = there m.j m.known_j;
            apart = m.apart;
            moves_i = q.1;
            moves_j = r.1;
            meet = meeting m.i m.j m.by_i m.by_j m.meet;
            is = m.is;
            leaves = refl;
          }),
          lands s' (set (set s m.i m.to_i) m.j m.to_j) (set (set t m.i q.0) m.j r.0) m.leaves (set_both n rels (set s m.i m.to_i) (set t m.i q.0) m.j m.to_j r.0 first (within m.j m.known_j) r.2),
        )

  -- where what each slot urges is urged by the slot of the other line, so it is with the lines
  urging : (s t : List ℕ) → ((i : ℕ) → i < length one.slots → (a : ℤ) → (running (inside ms one i)).Urgent (get_or s i 0) a → (running (inside ms other i)).Urgent (get_or t i 0) a) → (a : ℤ) → Urges ms one s a → Urges ms other t a
  urging s t h a (inl u) =
      inl (record { i = u.i; by = u.by; known = there u.i u.known; urges = h u.i u.known u.by u.urges; is = u.is ∙ out u.i u.by; seen = shown a u.seen })
  urging s t h a (inr u) =
      inr (record {
        i = u.i;
        j = u.j;
        by_i = u.by_i;
        by_j = u.by_j;
        known_i = there u.i u.known_i;
        known_j = there u.j u.known_j;
        apart = u.apart;
        urges_i = h u.i u.known_i u.by_i u.urges_i;
        urges_j = h u.j u.known_j u.by_j u.urges_j;
        meet = meeting u.i u.j u.by_i u.by_j u.meet;
        is = u.is;
      })

-- A line whose slots are tied, one by one, to those of another line that is wired alike.
pub record Refitted (ms : Catalogue) (new old : Line) : Type 0 where
  pub alike : Alike new old
  pub tied : (i : ℕ) → i < length old.slots → Tied (running (inside ms new i)) (running (inside ms old i))

module _ (ms : Catalogue) (new old : Line) (f : Refitted ms new old) where
  abbrev n : ℕ
  n = length old.slots

  -- a relation for each slot, and none beyond
  rel_at : (i : ℕ) → (i < n) ⊎ (n ≤ i) → ℕ → ℕ → Bool
  rel_at i (inl l) = (f.tied i l).0
  rel_at i (inr m) = λ x y. false

  rels : ℕ → ℕ → ℕ → Bool
  rels i = rel_at i (cases_lt i n)

  ties : (i : ℕ) → i < n → Ties (running (inside ms new i)) (running (inside ms old i)) (rels i)
  unfolding rel_at rels
  ties i l = go (cases_lt i n)
    where
      go : (c : (i < n) ⊎ (n ≤ i)) → Ties (running (inside ms new i)) (running (inside ms old i)) (rel_at i c)
      go (inl k) = (f.tied i k).1
      go (inr m) = absurd (omega arith)

  abbrev R : List ℕ → List ℕ → Bool
  R = pointwise n rels

  in_old : (i : ℕ) → i < length new.slots → i < n
  in_old i l = there ms new old f.alike i l

  in_new : (i : ℕ) → i < n → i < length new.slots
  in_new i l = there ms old new (turned new old f.alike) i l

  module _ (s t : List ℕ) (h : Pointwise n rels s t) where
    clauses : (i : ℕ) → i < n → Clauses (running (inside ms new i)) (running (inside ms old i)) (rels i) (get_or s i 0) (get_or t i 0)
    clauses i l = (ties i l).faster.keeps (get_or s i 0) (get_or t i 0) (h.pairs i l)

    forth : (a : ℤ) (s' : List ℕ) → (line_running ms new).Moves s a s' → (t' : List ℕ) × (line_running ms old).Moves t a t' × T (R s' t')
    forth a s' m =
        let q = follows ms new old f.alike n f.alike.wide rels s t h (λ i l. (clauses i l).forth) a s' m in
        (q.0, q.1, to_test n rels s' q.0 q.2)

    back : (a : ℤ) (t' : List ℕ) → (line_running ms old).Moves t a t' → (s' : List ℕ) × (line_running ms new).Moves s a s' × T (R s' t')
    back a t' m =
        let q = follows ms old new (turned new old f.alike) n refl (flipped rels) t s (flip n rels s t h) (λ i l. (clauses i l).back) a t' m in
        (q.0, q.1, to_test n rels q.0 t' (flip n (flipped rels) t' q.0 q.2))

    hurry : (s' : List ℕ) → Ticking ms new s s' → (a : ℤ) → Urges ms old t a → Urges ms new s a
    hurry s' k = urging ms old new (turned new old f.alike) t s (λ i l a u. (clauses i l).hurry (get_or s' i 0) (k.slots i (in_new i l)) a u)

    abbrev ahead : List ℕ
    ahead = passed n (inside ms old) t

    time : (s' : List ℕ) → Ticking ms new s s' → (t' : List ℕ) × Ticking ms old t t' × T (R s' t')
    time s' k = (
      ahead,
      record { wide = passed_wide n (inside ms old) t; slots = λ i l. (arrives i l).0; calm = λ u. k.calm (hurry s' k internal u) },
      to_test n rels s' ahead (record { wide_s = k.wide ∙ f.alike.wide; wide_t = passed_wide n (inside ms old) t; pairs = λ i l. (arrives i l).1 }),
    )
      where
        arrives : (i : ℕ) → i < n → ((state (inside ms old i) (get_or t i 0)).tick ≡ Some (get_or ahead i 0)) × T (rels i (get_or s' i 0) (get_or ahead i 0))
        arrives i l =
            let q = (clauses i l).time (get_or s' i 0) (k.slots i (in_new i l)) in
            let e = passed_at n (inside ms old) t i q.0 l q.1 in
            (subst (λ d. (state (inside ms old i) (get_or t i 0)).tick ≡ Some d) (sym e) q.1, subst (λ d. T (rels i (get_or s' i 0) d)) (sym e) q.2)

  start_at : (l : Line) (i : ℕ) → i < length l.slots → (inside ms l i).start ≡ get_or (starts ms l.slots) i 0
  start_at l i k = sym (get_or-map (λ (x : Slot). (module_in ms x.holds).start) l.slots i no_slot 0 k)

  begins : Pointwise n rels (starts ms new.slots) (starts ms old.slots)
  begins = record {
    wide_s = length-map new.slots (λ (x : Slot). (module_in ms x.holds).start) ∙ f.alike.wide;
    wide_t = length-map old.slots (λ (x : Slot). (module_in ms x.holds).start);
    pairs = λ i l. subst (λ d. T (rels i (get_or (starts ms new.slots) i 0) d)) (start_at old i l) (subst (λ d. T (rels i d (inside ms old i).start)) (start_at new i (in_new i l)) (ties i l).starts);
  }

  pub line_tied : Tied (line_running ms new) (line_running ms old)
  line_tied = (
    R,
    record {
      faster = record {
        left = λ s t h. (let p = of_test n rels s t h in record { wide = p.wide_s ∙ sym f.alike.wide; there = λ i l. (ties i (in_old i l)).faster.left (get_or s i 0) (get_or t i 0) (p.pairs i (in_old i l)) });
        right = λ s t h. (let p = of_test n rels s t h in record { wide = p.wide_t; there = λ i l. (ties i l).faster.right (get_or s i 0) (get_or t i 0) (p.pairs i l) });
        keeps = λ s t h. (let p = of_test n rels s t h in record { forth = forth s t p; back = back s t p; hurry = hurry s t p; time = time s t p });
      };
      starts = to_test n rels (starts ms new.slots) (starts ms old.slots) begins;
    },
  )
