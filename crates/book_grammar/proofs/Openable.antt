-- The rows of a book that was taken are refused, when they are opened, only for what places lead to: 8, 9 and 10.
use Rattle.std.proofs.Common.{◌≡◌, ℕ, zero, suc, ◌+◌, ◌-◌, ◌*◌, ◌<◌, ◌≤◌, Bool, true, false, cond, not, ◌&&◌, eqb, ltb, leb, List, [], ◌∷◌, ◌++◌, map, length, take, drop, pos, negsuc, Some, None, codes, Option, option_and_then, sym, refl, ap, ◌∙◌, subst, arith, length-append}
use Rattle.std.specs.Char.{is_ascii_digit, is_ascii_uppercase, is_ascii_alphanumeric}
use Rattle.std.specs.Int.{is_in_range}
use Rattle.std.specs.List.{prefix_len}
use Rattle.std.proofs.lemmas.List.{append-nil, append_assoc, length_push, length-map, drop_at, take_at}
use Rattle.std.proofs.lemmas.Bool.{ltb-true, lt-ltb, le-leb, and_parts, and_from}
use Rattle.action.specs.Action.{is_action, internal, last_port, opposite, same as equal}
use Rattle.rows.specs.declared.row.Place.{Place}
use Rattle.rows.specs.declared.row.Place.TheVariants.{Nil, Act, Wait, Sum as SumRow, Name}
use Rattle.rows.specs.declared.row.ModuleRow.{ModuleRow}
use Rattle.rows.specs.declared.fault.RowsFault.{RowsFault}
use Rattle.rows.specs.declared.fault.RowsFault.TheVariants.{Unguarded, Deep, ManyMoves}
use Rattle.rows.specs.Faults.{refusal_number}
use Rattle.rows.specs.Places.{row, guarded, depth_of, moves_of, ages}
use Rattle.rows.specs.Opening.{inside, by_action, first_failing, unless, unless_at, places_of, places_fault, module_fault, fault_from, fault}
use Rattle.book_words.specs.Words.{same, Kind, words, kinds, words_from, blank, size_at, kind_at, run_kind, mark_kind, ported, port_of, port_up_to}
use Rattle.book_words.specs.Words.Kind.{alien, other, bad, begins, nil, wait, dot, plus, equals, ends, opens, closes, enter, leave, name, act}
use Rattle.book_grammar.specs.Grammar.{Tree, Equation, Module, Term, Sum, Equations, Book}
use Rattle.book_grammar.specs.Grammar.Tree.{nought, called, waits, acts, both, group}
use Rattle.book_grammar.specs.Grammar.Term.{term_nil, term_name, term_wait, term_act, term_group}
use Rattle.book_grammar.specs.Grammar.Sum.{sum_one, sum_more}
use Rattle.book_grammar.specs.Grammar.Equations.{last_equation, more_equations}
use Rattle.book_grammar.specs.Grammar.Book.{no_module, more_modules}
use Rattle.book_grammar.specs.Rows.{Row, newest, laid, Side, side, rows_after, sides_after, place_of, settled, start_of, module_row, places_after, modules_after}
use Rattle.book_grammar.specs.Rows.Row.{plain, named}
use Rattle.book_grammar.specs.Reading.{some}
use Rattle.book_grammar.specs.Limits.{Each, FitsModule}
use Rattle.book_grammar.specs.Laws.{RowsLast}
use Rattle.book_grammar.proofs.Bounds.{laid_grows, each_split, each_join}
use Rattle.book_grammar.proofs.Exact.{taken_derived}

-- every action that words name is one
abbrev KindOk : Kind → Type 0
KindOk alien = Unit {0}
KindOk other = Unit {0}
KindOk bad = Unit {0}
KindOk begins = Unit {0}
KindOk nil = Unit {0}
KindOk wait = Unit {0}
KindOk dot = Unit {0}
KindOk plus = Unit {0}
KindOk equals = Unit {0}
KindOk ends = Unit {0}
KindOk opens = Unit {0}
KindOk closes = Unit {0}
KindOk enter = Unit {0}
KindOk leave = Unit {0}
KindOk (name x) = Unit {0}
KindOk (act a) = is_action a ≡ true

either : (x : Bool) (k l : Kind) → KindOk k → KindOk l → KindOk (cond x k l)
either true k l a b = a
either false k l a b = b

-- a port makes an action, and so does its opposite
opposite_ok : (n : ℕ) → KindOk (ported (opposite (pos n)))
opposite_ok zero = tt
opposite_ok (suc n) = go (leb (suc n) last_port) (equal (pos (suc n)) internal) refl
  where
    go : (b s : Bool) → leb (suc n) last_port ≡ b → KindOk (ported (elim (b && not s) [ true ↦ Some (negsuc n) | false ↦ None ]))
    go true true e = tt
    go true false e = e
    go false s e = tt

up_ok : (n : ℕ) → KindOk (ported (port_up_to n)) × KindOk (ported (option_and_then opposite (port_up_to n)))
up_ok n = go (is_in_range 1 last_port n) refl
  where
    go : (b : Bool) → is_in_range 1 last_port n ≡ b → KindOk (ported (cond b (Some (pos n)) None)) × KindOk (ported (option_and_then opposite (cond b (Some (pos n)) None)))
    go true e = ((and_parts _ _ e).1, opposite_ok n)
    go false e = (tt, tt)

port_ok : (ds : List ℕ) → KindOk (ported (port_of ds)) × KindOk (ported (option_and_then opposite (port_of ds)))
port_ok [] = (tt, tt)
port_ok (d ∷ []) = up_ok (d - 48)
port_ok (d ∷ e ∷ []) = go (eqb d 48)
  where
    go : (b : Bool) → KindOk (ported (cond b None (port_up_to ((d - 48) * 10 + (e - 48))))) × KindOk (ported (option_and_then opposite (cond b None (port_up_to ((d - 48) * 10 + (e - 48))))))
    go true = (tt, tt)
    go false = up_ok ((d - 48) * 10 + (e - 48))
port_ok (d ∷ e ∷ g ∷ more) = (tt, tt)

run_ok : (bs : List ℕ) → KindOk (run_kind bs)
run_ok [] = tt
run_ok (b ∷ bs) =
    either (is_ascii_uppercase b) (name (b ∷ bs)) _ tt (either (same (b ∷ bs) (codes "module")) begins _ tt (either (same (b ∷ bs) (codes "0")) nil _ tt
    (either (same (b ∷ bs) (codes "w")) wait _ tt (either (same (b ∷ bs) (codes "i")) (act internal) other refl tt))))

mark_ok : (b : ℕ) → KindOk (mark_kind b)
mark_ok b =
    either (eqb b 46) dot _ tt (either (eqb b 43) plus _ tt (either (eqb b 61) equals _ tt (either (eqb b 59) ends _ tt
    (either (eqb b 40) opens _ tt (either (eqb b 41) closes _ tt (either (eqb b 123) enter _ tt (either (eqb b 125) leave alien tt tt)))))))

kind_ok : (b : ℕ) (bs : List ℕ) → KindOk (kind_at b bs)
kind_ok b bs =
    let ds = take (prefix_len is_ascii_digit bs) bs in
    either (is_ascii_alphanumeric b) (run_kind (b ∷ take (prefix_len is_ascii_alphanumeric bs) bs)) _ (run_ok (b ∷ take (prefix_len is_ascii_alphanumeric bs) bs))
    (either (eqb b 63) (ported (port_of ds)) _ (port_ok ds).0
    (either (eqb b 33) (ported (option_and_then opposite (port_of ds))) (mark_kind b) (port_ok ds).1 (mark_ok b)))

words_ok : (n at : ℕ) (bs : List ℕ) → Each KindOk (kinds (words_from n at bs))
words_ok zero at bs = tt
words_ok (suc n) at [] = tt
words_ok (suc n) at (b ∷ bs) = go (blank b) (words_ok n (suc at) bs) (words_ok n (at + size_at b bs) (drop (size_at b bs) (b ∷ bs)))
  where
    go : (x : Bool) → Each KindOk (kinds (words_from n (suc at) bs)) → Each KindOk (kinds (words_from n (at + size_at b bs) (drop (size_at b bs) (b ∷ bs))))
        → Each KindOk (kinds (elim x [
          | true ↦ words_from n (suc at) bs
          | false ↦ record { at = at; size = size_at b bs; kind = kind_at b bs } ∷ words_from n (at + size_at b bs) (drop (size_at b bs) (b ∷ bs))
        ]))
    go true h k = h
    go false h k = (kind_ok b bs, k)

-- and so is every action of a derived tree
abbrev Acts : Tree → Type 0
Acts nought = Unit {0}
Acts (called x) = Unit {0}
Acts (waits t) = Acts t
Acts (acts a t) = (is_action a ≡ true) × Acts t
Acts (both l r) = Acts l × Acts r
Acts (group t) = Acts t

mutual
  term_acts : {u : List Kind} {t : Tree} → Term u t → Each KindOk u → Acts t
  term_acts term_nil h = tt
  term_acts (term_name x) h = tt
  term_acts (term_wait d) h = term_acts d h.1.1
  term_acts (term_act a d) h = (h.0, term_acts d h.1.1)
  term_acts (term_group {u} {t} d) h = sum_acts d (each_split KindOk u (closes ∷ []) h.1).0

  sum_acts : {u : List Kind} {t : Tree} → Sum u t → Each KindOk u → Acts t
  sum_acts (sum_one d) h = term_acts d h
  sum_acts (sum_more {u} {v = w} {l} {r} d e) h =
      (sum_acts d (each_split KindOk u (plus ∷ w) h).0, term_acts e (each_split KindOk u (plus ∷ w) h).1.1)

abbrev EquationOk : Equation → Type 0
EquationOk e = Acts e.right

-- a module has an equation, and its actions are actions
abbrev ModuleOk : Module → Type 0
ModuleOk m = (some m.equations ≡ true) × Each EquationOk m.equations

equations_acts : {u : List Kind} {es : List Equation} → Equations u es → Each KindOk u → (some es ≡ true) × Each EquationOk es
equations_acts (last_equation x {u} {t} d) h = (refl, (sum_acts d (each_split KindOk u (ends ∷ []) h.1.1).0, tt))
equations_acts (more_equations x {u} {v = w} {t} {es} d f) h =
    (refl, (sum_acts d (each_split KindOk u (ends ∷ w) h.1.1).0, (equations_acts f (each_split KindOk u (ends ∷ w) h.1.1).1.1).1))

book_acts : {u : List Kind} {ms : List Module} → Book u ms → Each KindOk u → Each ModuleOk ms
book_acts no_module h = tt
book_acts (more_modules x {u} {v = w} {es} {ms} d f) h =
    (equations_acts d (each_split KindOk u (leave ∷ w) h.1.1.1).0, book_acts f (each_split KindOk u (leave ∷ w) h.1.1.1).1.1)

-- a place leads to places among n, by an action
abbrev PlaceOk : ℕ → Place → Type 0
PlaceOk n p = (inside n p ≡ true) × (by_action p ≡ true)

abbrev RowOk : ℕ → Row → Type 0
RowOk n (plain p) = PlaceOk n p
RowOk n (named x) = Unit {0}

ltb_up : (k n n' : ℕ) → n ≤ n' → ltb k n ≡ true → ltb k n' ≡ true
ltb_up k n n' h e = lt-ltb k n' (let l = ltb-true k n e in omega arith)

place_up : (n n' : ℕ) (p : Place) → n ≤ n' → PlaceOk n p → PlaceOk n' p
place_up n n' Nil h k = (refl, refl)
place_up n n' (Act a j) h k = (ltb_up j n n' h k.0, k.1)
place_up n n' (Wait j) h k = (ltb_up j n n' h k.0, refl)
place_up n n' (SumRow i j) h k =
    let e = and_parts (ltb i n) (ltb j n) k.0 in
    (and_from (ltb i n') (ltb j n') (ltb_up i n n' h e.0) (ltb_up j n n' h e.1), refl)
place_up n n' (Name j) h k = (ltb_up j n n' h k.0, refl)

row_up : (n n' : ℕ) → n ≤ n' → (r : Row) → RowOk n r → RowOk n' r
row_up n n' h (plain p) k = place_up n n' p h k
row_up n n' h (named x) k = tt

each_map : {A : Type 0} (P Q : A → Type 0) → ((x : A) → P x → Q x) → (xs : List A) → Each P xs → Each Q xs
each_map P Q f [] h = tt
each_map P Q f (x ∷ xs) h = (f x h.0, each_map P Q f xs h.1)

push_ok : (R : List Row) (r : Row) → Each (RowOk (length R)) R → RowOk (length R + 1) r → Each (RowOk (length (R ++ r ∷ []))) (R ++ r ∷ [])
push_ok R r h k =
    subst (λ (n : ℕ). Each (RowOk n) (R ++ r ∷ [])) (sym (length_push R r))
    (each_join (RowOk (length R + 1)) R (r ∷ []) (each_map (RowOk (length R)) (RowOk (length R + 1)) (row_up (length R) (length R + 1) (omega arith)) R h) (k, tt))

laid_ok : (t : Tree) (R : List Row) → Acts t → Each (RowOk (length R)) R → Each (RowOk (length (laid t R))) (laid t R)
laid_ok nought R a h = push_ok R (plain Nil) h (refl, refl)
laid_ok (called x) R a h = push_ok R (named x) h tt
laid_ok (waits t) R a h =
    let L = laid t R in
    let g = laid_grows t R in
    push_ok L (plain (Wait (newest L))) (laid_ok t R a h) (lt-ltb (newest L) (length L + 1) (omega arith), refl)
laid_ok (acts b t) R a h =
    let L = laid t R in
    let g = laid_grows t R in
    push_ok L (plain (Act b (newest L))) (laid_ok t R a.1 h) (lt-ltb (newest L) (length L + 1) (omega arith), a.0)
laid_ok (both l r) R a h =
    let L = laid l R in
    let K = laid r L in
    let g = laid_grows l R in
    let i = laid_grows r L in
    push_ok K (plain (SumRow (newest L) (newest K))) (laid_ok r L a.1 (laid_ok l R a.0 h))
    (and_from (ltb (newest L) (length K + 1)) (ltb (newest K) (length K + 1)) (lt-ltb (newest L) (length K + 1) (omega arith)) (lt-ltb (newest K) (length K + 1) (omega arith)), refl)
laid_ok (group t) R a h = laid_ok t R a h

-- the rows and the sides of a module
rows_ok : (es : List Equation) (R : List Row) → Each EquationOk es → Each (RowOk (length R)) R → Each (RowOk (length (rows_after es R))) (rows_after es R)
rows_ok [] R a h = h
rows_ok (e ∷ es) R a h = rows_ok es (laid e.right R) a.1 (laid_ok e.right R a.0 h)

rows_grow : (es : List Equation) (R : List Row) → length R ≤ length (rows_after es R)
rows_grow [] R = omega arith
rows_grow (e ∷ es) R = let g = laid_grows e.right R in let h = rows_grow es (laid e.right R) in omega arith

abbrev SideOk : ℕ → Side → Type 0
SideOk n s = s.place < n

sides_ok : (es : List Equation) (R : List Row) (E : List Side) → Each (SideOk (length R)) E → Each (SideOk (length (rows_after es R))) (sides_after es R E)
sides_ok [] R E h = h
sides_ok (e ∷ es) R E h =
    let L = laid e.right R in
    let g = laid_grows e.right R in
    sides_ok es L (E ++ side e.left (newest L) ∷ [])
    (each_join (SideOk (length L)) E (side e.left (newest L) ∷ []) (each_map (SideOk (length R)) (SideOk (length L)) (λ s k. omega arith) E h) (omega arith, tt))

start_after : (es : List Equation) (R : List Row) (s : Side) (E : List Side) → start_of (sides_after es R (s ∷ E)) ≡ s.place
start_after [] R s E = refl
start_after (e ∷ es) R s E = start_after es (laid e.right R) s (E ++ side e.left (newest (laid e.right R)) ∷ [])

start_ok : (es : List Equation) → some es ≡ true → start_of (sides_after es [] []) < length (rows_after es [])
start_ok [] h = let z : ◌≡◌ {A = ℕ} 0 1 = cc in absurd (omega arith)
start_ok (e ∷ es) h =
    let L = laid e.right [] in
    let g = laid_grows e.right [] in
    let k = rows_grow es L in
    let s = start_after es L (side e.left (newest L)) [] in
    omega arith

cond_below : (x : Bool) (a b n : ℕ) → a < n → b < n → cond x a b < n
cond_below true a b n h k = h
cond_below false a b n h k = k

place_below : (E : List Side) (x : List ℕ) (n : ℕ) → 0 < n → Each (SideOk n) E → place_of E x < n
place_below [] x n z h = z
place_below (s ∷ E) x n z h = cond_below (same x s.left) s.place (place_of E x) n h.0 (place_below E x n z h.1)

settled_ok : (E : List Side) (n : ℕ) → 0 < n → Each (SideOk n) E → (R : List Row) → Each (RowOk n) R → Each (PlaceOk n) (map (settled E) R)
settled_ok E n z h [] k = tt
settled_ok E n z h (plain p ∷ R) k = (k.0, settled_ok E n z h R k.1)
settled_ok E n z h (named x ∷ R) k = ((lt-ltb (place_of E x) n (place_below E x n z h), refl), settled_ok E n z h R k.1)

-- opening such a module
none_failing : (f : ℕ → Bool) (n k : ℕ) → ((i : ℕ) → k ≤ i → i < k + n → f i ≡ true) → first_failing f n k ≡ None
none_failing f zero k h = refl
none_failing f (suc n) k h =
    ap {B = Option ℕ} (λ (b : Bool). elim b [ true ↦ first_failing f n (suc k) | false ↦ Some k ]) (h k (omega arith) (omega arith))
    ∙ none_failing f n (suc k) (λ i a b. h i (omega arith) (omega arith))

each_row : (P : Place → Type 0) (ps : List Place) (i : ℕ) → i < length ps → Each P ps → P (row ps i)
each_row P [] i h k = absurd (omega arith)
each_row P (p ∷ ps) zero h k = k.0
each_row P (p ∷ ps) (suc i) h k = each_row P ps i (omega arith) k.1

late : (a b c : Option ℕ) (m : ℕ) (e : RowsFault)
    → unless_at a (λ i. Unguarded m i) (unless_at b (λ i. Deep m i) (unless_at c (λ i. ManyMoves m i) None)) ≡ Some e → 8 ≤ refusal_number e
late (Some i) b c m e h = let z : Unguarded m i ≡ e = cc in subst (λ (x : RowsFault). 8 ≤ refusal_number x) z (omega arith)
late None (Some i) c m e h = let z : Deep m i ≡ e = cc in subst (λ (x : RowsFault). 8 ≤ refusal_number x) z (omega arith)
late None None (Some i) m e h = let z : ManyMoves m i ≡ e = cc in subst (λ (x : RowsFault). 8 ≤ refusal_number x) z (omega arith)
late None None None m e h = let z : ◌≡◌ {A = ℕ} 0 1 = cc in absurd (omega arith)

unless_true : (b : Bool) (f : RowsFault) (o : Option RowsFault) → b ≡ true → unless b f o ≡ o
unless_true b f o e = ap (λ (x : Bool). unless x f o) e

unless_none : (a : Option ℕ) (f : ℕ → RowsFault) (o : Option RowsFault) → a ≡ None → unless_at a f o ≡ o
unless_none a f o e = ap (λ (x : Option ℕ). unless_at x f o) e

places_late : (ps : List Place) (m : ℕ) (e : RowsFault) → Each (PlaceOk (length ps)) ps → places_fault ps m ≡ Some e → 8 ≤ refusal_number e
unfolding places_fault
places_late ps m e h g =
    late (first_failing (guarded ps) (length ps) 0) (first_failing (λ i. ltb (depth_of ps i) ages) (length ps) 0) (first_failing (λ i. leb (length (moves_of ps i)) 64) (length ps) 0) m e
    (sym (unless_none _ _ _ (none_failing (λ i. by_action (row ps i)) (length ps) 0 (λ i a b. (each_row (PlaceOk (length ps)) ps i (omega arith) h).1)))
    ∙ sym (unless_none _ _ _ (none_failing (λ i. inside (length ps) (row ps i)) (length ps) 0 (λ i a b. (each_row (PlaceOk (length ps)) ps i (omega arith) h).0))) ∙ g)

module_late : (P ps : List Place) (m : ℕ) (r : ModuleRow) (e : RowsFault) → m < 64 → r.places ≡ length ps → length ps ≤ 256 → r.first + length ps ≤ length P → r.start < length ps
    → take (length ps) (drop r.first P) ≡ ps → Each (PlaceOk (length ps)) ps → module_fault P m r ≡ Some e → 8 ≤ refusal_number e
unfolding module_fault
module_late P ps m r e hm hn few room start there h g =
    let q : places_of P r ≡ ps = ap (λ (n : ℕ). take n (drop r.first P)) hn ∙ there in
    places_late ps m e h
    (ap (λ (x : List Place). places_fault x m) (sym q)
    ∙ sym (unless_true (ltb r.start r.places) _ _ (lt-ltb r.start r.places (omega arith)))
    ∙ sym (unless_true (leb (r.first + r.places) (length P)) _ _ (le-leb (r.first + r.places) (length P) (omega arith)))
    ∙ sym (unless_true (leb r.places 256) _ _ (le-leb r.places 256 (omega arith)))
    ∙ sym (unless_true (ltb m 64) _ _ (lt-ltb m 64 hm)) ∙ g)

-- the rows of books
modules_front : (ms : List Module) (Q : List Place) (r : ModuleRow) (M : List ModuleRow) → modules_after ms Q (r ∷ M) ≡ r ∷ modules_after ms Q M
modules_front [] Q r M = refl
modules_front (m ∷ ms) Q r M = modules_front ms _ r (M ++ module_row (length Q) (rows_after m.equations []) (sides_after m.equations [] []) ∷ [])

places_front : (ms : List Module) (Q : List Place) → (X : List Place) × (places_after ms Q ≡ Q ++ X)
places_front [] Q = ([], sym (append-nil Q))
places_front (m ∷ ms) Q =
    let ps = map (settled (sides_after m.equations [] [])) (rows_after m.equations []) in
    let r = places_front ms (Q ++ ps) in
    (ps ++ r.0, r.1 ∙ append_assoc Q ps r.0)

-- the places and the row of one module behind other places
abbrev places_within : Module → List Place
places_within m = map (settled (sides_after m.equations [] [])) (rows_after m.equations [])

abbrev row_in : Module → List Place → ModuleRow
row_in m Q = module_row (length Q) (rows_after m.equations []) (sides_after m.equations [] [])

same_length : (m : Module) → length (places_within m) ≡ length (rows_after m.equations [])
same_length m = length-map (rows_after m.equations []) (settled (sides_after m.equations [] []))

there : (m : Module) (ms : List Module) (Q P : List Place) → P ≡ places_after ms (Q ++ places_within m) → take (length (places_within m)) (drop (length Q) P) ≡ places_within m
there m ms Q P q =
    let ps = places_within m in
    let x = places_front ms (Q ++ ps) in
    ap (λ (y : List Place). take (length ps) (drop (length Q) y)) (q ∙ x.1 ∙ append_assoc Q ps x.0)
    ∙ ap (take (length ps)) (drop_at Q (ps ++ x.0) (length Q) refl) ∙ take_at ps x.0 (length ps) refl

room : (m : Module) (ms : List Module) (Q P : List Place) → P ≡ places_after ms (Q ++ places_within m) → length Q + length (places_within m) ≤ length P
room m ms Q P q =
    let ps = places_within m in
    let x = places_front ms (Q ++ ps) in
    let n = ap length (q ∙ x.1) in
    let i = length-append (Q ++ ps) x.0 in
    let j = length-append Q ps in
    omega arith

places_ok : (m : Module) → ModuleOk m → Each (PlaceOk (length (places_within m))) (places_within m)
places_ok m a =
    let s = start_ok m.equations a.0 in
    subst (λ (n : ℕ). Each (PlaceOk n) (places_within m)) (sym (same_length m))
    (settled_ok (sides_after m.equations [] []) (length (rows_after m.equations [])) (omega arith) (sides_ok m.equations [] [] tt)
    (rows_after m.equations []) (rows_ok m.equations [] a.1 tt))

books_late : (ms : List Module) (Q : List Place) (k : ℕ) (P : List Place) (e : RowsFault) → Each ModuleOk ms → Each FitsModule ms → k + length ms ≤ 64
    → P ≡ places_after ms Q → fault_from P k (modules_after ms Q []) ≡ Some e → 8 ≤ refusal_number e
books_late [] Q k P e a f l q g = let z : ◌≡◌ {A = ℕ} 0 1 = cc in absurd (omega arith)
books_late (m ∷ ms) Q k P e a f l q g =
    go (module_fault P k (row_in m Q)) refl (sym (ap (fault_from P k) (modules_front ms (Q ++ places_within m) (row_in m Q) [])) ∙ g)
    (λ h. books_late ms (Q ++ places_within m) (suc k) P e a.1 f.1 (omega arith) q h)
  where
    go : (o : Option RowsFault) → module_fault P k (row_in m Q) ≡ o
        → ◌≡◌ {A = Option RowsFault} (elim o [ None ↦ fault_from P (suc k) (modules_after ms (Q ++ places_within m) []) | Some x ↦ Some x ]) (Some e)
        → (fault_from P (suc k) (modules_after ms (Q ++ places_within m) []) ≡ Some e → 8 ≤ refusal_number e) → 8 ≤ refusal_number e
    go None h i rec = rec i
    go (Some x) h i rec =
        let s = start_ok m.equations a.0.0 in
        let n = same_length m in
        let few = f.0.places in
        module_late P (places_within m) k (row_in m Q) e (omega arith) (sym n) (omega arith) (room m ms Q P q) (omega arith) (there m ms Q P q) (places_ok m a.0) (h ∙ i)

pub rows_last : RowsLast
unfolding fault words
rows_last p m text P M e t g =
    let b = taken_derived p m text P M t in
    books_late b.book [] 0 P e (book_acts b.derived (words_ok (suc (length text)) 0 text)) b.fits.each (let f = b.fits.few in omega arith) b.places_so
    (ap (λ (y : List ModuleRow). fault_from P 0 y) (sym b.modules_so) ∙ g)
