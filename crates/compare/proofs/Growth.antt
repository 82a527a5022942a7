-- Adding pairs to the rows, one step after another. Assumes nothing.
use Rattle.std.proofs.Common.{◌≡◌, ℕ, zero, suc, ◌+◌, ◌-◌, ◌<◌, ◌≤◌, Bool, true, false, List, [], ◌∷◌, ◌++◌, length, get_or, take, drop, set, ℤ, Some, None, Option, is_some, MatchOption, Ok, Err, Result, sym, refl, ap, ◌∙◌, subst, inl, inr, arith}
use Rattle.std.specs.Bool.{⊤}
use Rattle.std.proofs.lemmas.List.{append_assoc, length-take-le, take_more_set, take_all, drop-set-lt, drop-drop, length-set, at_drop_more, get_or-set_same, get_or-set_other, length-append, take-append-le}
use Rattle.std.proofs.lemmas.Bool.{cases_eq, cases_Bool, lt-ltb, le-ltb}
use Rattle.action.specs.Lists.{each}
use Rattle.action.specs.Action.{same}
use Rattle.action.proofs.Basics.{T_true, true_T}
use Rattle.action.proofs.Sets.{same_eq, eq_same}
use Rattle.catalogue.specs.declared.Move.{Move}
use Rattle.catalogue.specs.Catalogue.{Module, state, most_moves}
use Rattle.pair_table.specs.declared.PairRow.{PairRow}
use Rattle.pair_table.specs.declared.CompareFault.{CompareFault}
use Rattle.pair_table.specs.declared.CompareFault.TheVariants.{TableTooSmall}
use Rattle.pair_table.specs.Pairs.{Pair, pair, added, alike, by_moves, both_tick, leads_to, explored, most_rows}
use Rattle.pair_table.specs.Tables.{room}
use Rattle.pair_table.specs.Laws.{row}
use Rattle.pair_table.proofs.Adding.{nil_pair, Begins, one_more_there, one_more_new, added_begins, added_append}
use Rattle.pair_table.proofs.Leads.{alike_same, alike_other}
use Rattle.pair_table.proofs.Explored.{explored_begins}
use Rattle.compare.specs.declared.filled.Filled.{Filled}
use Rattle.compare.specs.Rows.{fresh, pair_of, pairs_of, Is, Absent}
use Rattle.compare.specs.Growth.{Unranked, Grew, Full, Grows, pairs_in, room_of}
use Rattle.compare.specs.Ranks.{Modest}
use Rattle.compare.proofs.Rows.{there, absent, length_pairs, pairs_more, pair_at}

-- moves by different actions
not_same : (a b : ℤ) → (a ≡ b → ⊥) → same a b ≡ false
not_same a b n = elim (cases_Bool (same a b)) [ inl t ↦ absurd (n (same_eq a b (T_true (same a b) t))) | inr f ↦ f ]

-- ── one pair ──

pub grew_same : (f : Filled) (p q i : ℕ) → i < f.count → Is f.rows.now i p q → Grew f f (added (pairs_in f) (pair p q ∷ []))
grew_same f p q i l e =
    record { same_reference = refl; unranked = λ u. u; more = omega arith; long = refl; rows = sym (one_more_there (pairs_in f) (pair p q) (there f.count f.rows.now i p q l f.indexed.within e)); rest = refl }

-- what `find` tells
pub found : (f : Filled) (p q : ℕ) (r : Option ℕ) → is_some r ≡ true → MatchOption r (Absent f.rows.now f.count p q) (λ i. (i < f.count) × Is f.rows.now i p q)
    → Grew f f (added (pairs_in f) (pair p q ∷ []))
found f p q None e h = absurd (let z : ◌≡◌ {A = ℕ} 0 1 = cc in omega arith)
found f p q (Some i) e h = grew_same f p q i h.0 h.1

pub not_found : (f : Filled) (p q : ℕ) (r : Option ℕ) → is_some r ≡ false → MatchOption r (Absent f.rows.now f.count p q) (λ i. (i < f.count) × Is f.rows.now i p q)
    → Absent f.rows.now f.count p q
not_found f p q None e h = h
not_found f p q (Some i) e h = absurd (let z : ◌≡◌ {A = ℕ} 0 1 = cc in omega arith)

unranked_more : (rows : List PairRow) (n p q : ℕ) → n < length rows → Unranked rows n → Unranked (set rows n (fresh p q)) (n + 1)
unranked_more rows n p q l h j m = elim (cases_eq j n) [
  | inl e ↦ ap (λ (i : ℕ). (row (set rows n (fresh p q)) i).rank) e ∙ ap (λ (r : PairRow). r.rank) (get_or-set_same rows n (fresh p q) _ l)
  | inr ne ↦ ap (λ (r : PairRow). r.rank) (get_or-set_other rows n j (fresh p q) _ ne) ∙ h j (omega arith)
]

pub modest_more : (rows : List PairRow) (n p q : ℕ) → n < length rows → Modest rows n → Modest (set rows n (fresh p q)) (n + 1)
modest_more rows n p q l h j m = elim (cases_eq j n) [
  | inl e ↦ (let r : (row (set rows n (fresh p q)) j).rank ≡ 0 = ap (λ (i : ℕ). (row (set rows n (fresh p q)) i).rank) e ∙ ap (λ (r : PairRow). r.rank) (get_or-set_same rows n (fresh p q) _ l) in omega arith)
  | inr ne ↦ (let r : (row (set rows n (fresh p q)) j).rank ≡ (row rows j).rank = ap (λ (r : PairRow). r.rank) (get_or-set_other rows n j (fresh p q) _ ne) in omega (arith, h j (omega arith)))
]

pub grew_more : (f g : Filled) (p q : ℕ) → f.count < length f.rows.now → Absent f.rows.now f.count p q
    → g.rows.ghost_name ≡ f.rows.ghost_name → g.rows.now ≡ set f.rows.now f.count (fresh p q) → g.count ≡ f.count + 1 → Grew f g (added (pairs_in f) (pair p q ∷ []))
grew_more f g p q l h s e c =
    let n : ℕ = f.count in
    record {
      same_reference = s;
      unranked = λ u. subst (λ (t : List PairRow). Unranked t g.count) (sym e) (subst (λ (m : ℕ). Unranked (set f.rows.now n (fresh p q)) m) (sym c) (unranked_more f.rows.now n p q l u));
      more = omega arith;
      long = ap length e ∙ length-set f.rows.now n (fresh p q);
      rows = ap (λ (m : ℕ). pairs_of m g.rows.now) c ∙ ap (pairs_of (n + 1)) e ∙ pairs_more n f.rows.now p q l ∙ sym (one_more_new (pairs_in f) (pair p q) (absent n f.rows.now p q h));
      rest = ap (drop g.count) e ∙ drop-set-lt g.count f.rows.now n (fresh p q) (omega arith);
    }

pub full_now : (f : Filled) (p q : ℕ) → Absent f.rows.now f.count p q → room_of f ≤ f.count → Full f f (added (pairs_in f) (pair p q ∷ [])) TableTooSmall
full_now f p q h c =
    let t : List PairRow = f.rows.now in
    let w : added (pairs_in f) (pair p q ∷ []) ≡ pairs_in f ++ pair p q ∷ [] = one_more_new (pairs_in f) (pair p q) (absent f.count t p q h) in
    let m : room_of f ≡ f.count = omega (arith, f.indexed.within, f.indexed.few) in
    let size : length (pairs_in f) ≡ f.count = length_pairs f.count t f.indexed.within in
    record {
      same_reference = refl;
      why = refl;
      over = omega (arith, ap length w, length-append (pairs_in f) (pair p q ∷ []));
      unranked = λ u j l. u j (omega arith);
      long = refl;
      rows = ap (λ (i : ℕ). pairs_of i t) m ∙ sym (ap (take (room_of f)) w ∙ take-append-le (room_of f) (pairs_in f) (pair p q ∷ []) (omega arith) ∙ ap (λ (i : ℕ). take i (pairs_in f)) m ∙ take_all f.count (pairs_in f) (omega arith));
      rest = refl;
    }

-- ── one step after another ──

-- what is untouched behind n stays so behind m
rest_on : (xs ys : List PairRow) (n m : ℕ) → n ≤ m → drop n xs ≡ drop n ys → drop m xs ≡ drop m ys
rest_on xs ys n m l e =
    let s : n + (m - n) ≡ m = omega arith in
    subst (λ (i : ℕ). drop i xs ≡ drop i ys) s (sym (drop-drop (m - n) n xs) ∙ ap (drop (m - n)) e ∙ drop-drop (m - n) n ys)

-- the wanted rows under another name
pub grew_is : (f g : Filled) (w v : List Pair) → Grew f g w → w ≡ v → Grew f g v
grew_is f g w v a e = record { same_reference = a.same_reference; unranked = a.unranked; more = a.more; long = a.long; rows = a.rows ∙ e; rest = a.rest }

pub grew_on : (f g h : Filled) (w v : List Pair) → Grew f g w → Grew g h v → Grew f h v
grew_on f g h w v a b =
    record {
      same_reference = b.same_reference ∙ a.same_reference;
      unranked = λ u. b.unranked (a.unranked u);
      more = omega (arith, a.more, b.more);
      long = b.long ∙ a.long;
      rows = b.rows;
      rest = b.rest ∙ rest_on g.rows.now f.rows.now g.count h.count b.more a.rest;
    }

-- a table that is full for one step is full for all that follows
pub full_on : (f g : Filled) (w x : List Pair) (e : CompareFault) → Full f g w e → Begins w x → Full f g x e
full_on f g w x e k b =
    let size : length x ≡ length w + length b.0 = ap length b.1 ∙ length-append w b.0 in
    record {
      same_reference = k.same_reference;
      why = k.why;
      over = omega (arith, k.over);
      unranked = k.unranked;
      long = k.long;
      rows = k.rows ∙ sym (ap (take (room_of f)) b.1 ∙ take-append-le (room_of f) w b.0 (omega (arith, k.over)));
      rest = k.rest;
    }

-- and so it is for what came before
pub full_back : (f g h : Filled) (w v : List Pair) (e : CompareFault) → Grew f g v → Full g h w e → Full f h w e
full_back f g h w v e a k =
    let c : room_of g ≡ room_of f = ap room a.long in
    record {
      same_reference = k.same_reference ∙ a.same_reference;
      why = k.why;
      over = omega (arith, k.over, c);
      unranked = λ u. subst (λ (m : ℕ). Unranked h.rows.now m) c (k.unranked (a.unranked u));
      long = k.long ∙ a.long;
      rows = subst (λ (m : ℕ). pairs_of m h.rows.now ≡ take m w) c k.rows;
      rest = subst (λ (m : ℕ). drop m h.rows.now ≡ drop m f.rows.now) c (k.rest ∙ rest_on g.rows.now f.rows.now g.count (room_of g) (omega (arith, g.indexed.within, g.indexed.few)) a.rest);
    }

-- A loop has grown the rows from f to g, and what it has still to do, F, leads from these to what is wanted.
pub record Growing (f g : Filled) (F : List Pair → List Pair) (wanted : List Pair) : Type 0 where
  pub grew : Grew f g (pairs_in g)
  pub gives : F (pairs_in g) ≡ wanted

pub growing_more : (f g h : Filled) (F G : List Pair → List Pair) (w wanted : List Pair)
    → Growing f g F wanted → Grew g h w → F (pairs_in g) ≡ G w → Growing f h G wanted
growing_more f g h F G w wanted k a e =
    record {
      grew = grew_is f h w (pairs_in h) (grew_on f g h (pairs_in g) w k.grew a) (sym a.rows);
      gives = ap G a.rows ∙ sym e ∙ k.gives;
    }

pub growing_done : (f g : Filled) (F : List Pair → List Pair) (wanted : List Pair) → Growing f g F wanted → F (pairs_in g) ≡ pairs_in g → Grew f g wanted
growing_done f g F wanted k e = grew_is f g (pairs_in g) wanted k.grew (sym e ∙ k.gives)

pub growing_full : (f g h : Filled) (F : List Pair → List Pair) (w wanted : List Pair) (e : CompareFault)
    → Growing f g F wanted → Full g h w e → Begins w (F (pairs_in g)) → Full f h wanted e
growing_full f g h F w wanted e k u b =
    full_back f g h wanted (pairs_in g) e k.grew
    (subst (λ (x : List Pair). Full g h x e) k.gives (full_on g h w (F (pairs_in g)) e u b))

-- ── the loops ──

-- the pairs of a move with the others that are left
abbrev pub alike_left : Move → List Move → ℕ → List Pair → List Pair
alike_left a olds i xs = added xs (each (alike a) (drop i olds))

-- the pairs of the moves that are left
abbrev pub moves_left : List Move → List Move → ℕ → List Pair → List Pair
moves_left news olds i xs = added xs (by_moves (drop i news) olds)

alike_at : (a : Move) (olds : List Move) (i : ℕ) (d : Move) (xs : List Pair) → i < length olds
    → alike_left a olds i xs ≡ alike_left a olds (i + 1) (added xs (alike a (get_or olds i d)))
alike_at a olds i d xs l = at_drop_more (λ (ms : List Move). added xs (each (alike a) ms)) olds i d l ∙ added_append xs (alike a (get_or olds i d)) (each (alike a) (drop (i + 1) olds))

alike_more : (a : Move) (olds : List Move) (i : ℕ) (d : Move) (xs : List Pair) → i < length olds → a.action ≡ (get_or olds i d).action
    → alike_left a olds i xs ≡ alike_left a olds (i + 1) (added xs (pair a.target (get_or olds i d).target ∷ []))
alike_more a olds i d xs l e = alike_at a olds i d xs l ∙ ap (λ (ys : List Pair). alike_left a olds (i + 1) (added xs ys)) (alike_same a (get_or olds i d) (true_T (same a.action (get_or olds i d).action) (eq_same a.action (get_or olds i d).action e)))

pub alike_step : (f g h : Filled) (a : Move) (olds : List Move) (i : ℕ) (d : Move) (wanted : List Pair)
    → i < length olds → a.action ≡ (get_or olds i d).action
    → Growing f g (alike_left a olds i) wanted → Grew g h (added (pairs_in g) (pair a.target (get_or olds i d).target ∷ []))
    → Growing f h (alike_left a olds (i + 1)) wanted
alike_step f g h a olds i d wanted l e k x =
    growing_more f g h (alike_left a olds i) (alike_left a olds (i + 1)) _ wanted k x (alike_more a olds i d (pairs_in g) l e)

pub alike_pass : (f g : Filled) (a : Move) (olds : List Move) (i : ℕ) (d : Move) (wanted : List Pair)
    → i < length olds → (a.action ≡ (get_or olds i d).action → ⊥)
    → Growing f g (alike_left a olds i) wanted → Growing f g (alike_left a olds (i + 1)) wanted
alike_pass f g a olds i d wanted l ne k =
    record {
      grew = k.grew;
      gives = sym (alike_at a olds i d (pairs_in g) l ∙ ap (λ (ys : List Pair). alike_left a olds (i + 1) (added (pairs_in g) ys)) (alike_other a (get_or olds i d) (not_same a.action (get_or olds i d).action ne))) ∙ k.gives;
    }

pub alike_full : (f g h : Filled) (a : Move) (olds : List Move) (i : ℕ) (d : Move) (wanted : List Pair) (e : CompareFault)
    → i < length olds → a.action ≡ (get_or olds i d).action
    → Growing f g (alike_left a olds i) wanted → Full g h (added (pairs_in g) (pair a.target (get_or olds i d).target ∷ [])) e
    → Full f h wanted e
alike_full f g h a olds i d wanted e l o k u =
    let w : List Pair = added (pairs_in g) (pair a.target (get_or olds i d).target ∷ []) in
    growing_full f g h (alike_left a olds i) w wanted e k u
    (subst (λ (ys : List Pair). Begins w ys) (sym (alike_more a olds i d (pairs_in g) l o)) (added_begins w (each (alike a) (drop (i + 1) olds))))

by_moves_more : (news olds : List Move) (i : ℕ) (d : Move) (xs : List Pair) → i < length news
    → moves_left news olds i xs ≡ moves_left news olds (i + 1) (added xs (each (alike (get_or news i d)) olds))
by_moves_more news olds i d xs l =
    at_drop_more (λ (ms : List Move). added xs (by_moves ms olds)) news i d l ∙ added_append xs (each (alike (get_or news i d)) olds) (by_moves (drop (i + 1) news) olds)

pub moves_step : (f g h : Filled) (news olds : List Move) (i : ℕ) (d : Move) (wanted : List Pair) → i < length news
    → Growing f g (moves_left news olds i) wanted → Grew g h (added (pairs_in g) (each (alike (get_or news i d)) olds))
    → Growing f h (moves_left news olds (i + 1)) wanted
moves_step f g h news olds i d wanted l k x =
    growing_more f g h (moves_left news olds i) (moves_left news olds (i + 1)) _ wanted k x (by_moves_more news olds i d (pairs_in g) l)

pub moves_full : (f g h : Filled) (news olds : List Move) (i : ℕ) (d : Move) (wanted : List Pair) (e : CompareFault) → i < length news
    → Growing f g (moves_left news olds i) wanted → Full g h (added (pairs_in g) (each (alike (get_or news i d)) olds)) e → Full f h wanted e
moves_full f g h news olds i d wanted e l k u =
    let w : List Pair = added (pairs_in g) (each (alike (get_or news i d)) olds) in
    growing_full f g h (moves_left news olds i) w wanted e k u
    (subst (λ (ys : List Pair). Begins w ys) (sym (by_moves_more news olds i d (pairs_in g) l)) (added_begins w (by_moves (drop (i + 1) news) olds)))

-- the moves of a row and then its ticks
pub leads_is : (new old : Module) (xs : List Pair) (p q : ℕ) (news olds : List Move) (s t : Option ℕ)
    → news ≡ (state new p).moves → olds ≡ (state old q).moves → s ≡ (state new p).tick → t ≡ (state old q).tick
    → added xs (leads_to new old (pair p q)) ≡ added (added xs (by_moves news olds)) (both_tick s t)
unfolding leads_to
leads_is new old xs p q news olds s t en eo es et =
    added_append xs (by_moves (state new p).moves (state old q).moves) (both_tick (state new p).tick (state old q).tick)
    ∙ cc

module _ (f : Filled) (new old : Module) (p q : ℕ) (news olds : List Move) (en : news ≡ (state new p).moves) (eo : olds ≡ (state old q).moves) where
  abbrev Wanted : List Pair
  Wanted = added (pairs_in f) (leads_to new old (pair p q))

  abbrev ByMoves : List Pair
  ByMoves = added (pairs_in f) (by_moves news olds)

  ticked : (g : Filled) (s o : Option ℕ) → s ≡ (state new p).tick → o ≡ (state old q).tick → Grew f g ByMoves → added (pairs_in g) (both_tick s o) ≡ Wanted
  ticked g s o es et k = ap (λ (xs : List Pair). added xs (both_tick s o)) k.rows ∙ sym (leads_is new old (pairs_in f) p q news olds s o en eo es et)

  pub expand_full : (g : Filled) (e : CompareFault) → Full f g ByMoves e → Full f g Wanted e
  expand_full g e u =
      full_on f g ByMoves _ e u
      (subst (λ (ys : List Pair). Begins ByMoves ys) (sym (leads_is new old (pairs_in f) p q news olds _ _ en eo refl refl)) (added_begins ByMoves (both_tick (state new p).tick (state old q).tick)))

  pub expand_grows : (g h : Filled) (s o : Option ℕ) (r : Result ⊤ CompareFault) → s ≡ (state new p).tick → o ≡ (state old q).tick
      → Grew f g ByMoves → Grows g h (added (pairs_in g) (both_tick s o)) r → Grows f h Wanted r
  expand_grows g h s o (Ok x) es et k a = grew_is f h _ _ (grew_on f g h _ _ k a) (ticked g s o es et k)
  expand_grows g h s o (Err e) es et k u = full_back f g h _ _ e k (subst (λ (x : List Pair). Full g h x e) (ticked g s o es et k) u)

-- the exploration, at a row that is there and where none is left
explored_suc : (new old : Module) (n i : ℕ) (xs : List Pair) → i < length xs
    → explored new old (suc n) i xs ≡ explored new old n (suc i) (added xs (leads_to new old (get_or xs i nil_pair)))
unfolding explored
explored_suc new old n i xs l =
    ap {B = List Pair} (λ (b : Bool). elim b [ true ↦ explored new old n (suc i) (added xs (leads_to new old (get_or xs i nil_pair))) | false ↦ xs ]) (lt-ltb i (length xs) l)

explored_stop : (new old : Module) (n i : ℕ) (xs : List Pair) → length xs ≤ i → explored new old n i xs ≡ xs
unfolding explored
explored_stop new old zero i xs l = refl
explored_stop new old (suc n) i xs l =
    ap {B = List Pair} (λ (b : Bool). elim b [ true ↦ explored new old n (suc i) (added xs (leads_to new old (get_or xs i nil_pair))) | false ↦ xs ]) (le-ltb i (length xs) l)

-- what is left of the exploration at row `at`
abbrev pub left_at : Module → Module → ℕ → List Pair → List Pair
left_at new old at = explored new old (most_rows - at) at

explored_more : (new old : Module) (f : Filled) (at : ℕ) → at < f.count
    → left_at new old at (pairs_in f) ≡ left_at new old (at + 1) (added (pairs_in f) (leads_to new old (pair_of (row f.rows.now at))))
explored_more new old f at l =
    let w = f.indexed.within in
    let few = f.indexed.few in
    let a : most_rows - at ≡ suc (most_rows - (at + 1)) = omega arith in
    let b : suc at ≡ at + 1 = omega arith in
    let long : at < length (pairs_in f) = omega (arith, length_pairs f.count f.rows.now w) in
    ap (λ (m : ℕ). explored new old m at (pairs_in f)) a
    ∙ explored_suc new old (most_rows - (at + 1)) at (pairs_in f) long
    ∙ ap (λ (m : ℕ). explored new old (most_rows - (at + 1)) m (added (pairs_in f) (leads_to new old (get_or (pairs_in f) at nil_pair)))) b
    ∙ ap (λ (x : Pair). explored new old (most_rows - (at + 1)) (at + 1) (added (pairs_in f) (leads_to new old x))) (pair_at f.count f.rows.now at l w)

pub explore_step : (f g h : Filled) (at : ℕ) (new old : Module) (wanted : List Pair) → at < g.count
    → Growing f g (left_at new old at) wanted → Grew g h (added (pairs_in g) (leads_to new old (pair_of (row g.rows.now at))))
    → (at + 1 ≤ h.count) × Growing f h (left_at new old (at + 1)) wanted
explore_step f g h at new old wanted l k a =
    (omega (arith, a.more), growing_more f g h (left_at new old at) (left_at new old (at + 1)) _ wanted k a (explored_more new old g at l))

pub explore_done : (f g : Filled) (at : ℕ) (new old : Module) (wanted : List Pair) → g.count ≤ at → Growing f g (left_at new old at) wanted → Grew f g wanted
explore_done f g at new old wanted l k =
    growing_done f g (left_at new old at) wanted k (explored_stop new old (most_rows - at) at (pairs_in g) (omega (arith, length_pairs g.count g.rows.now g.indexed.within)))

pub explore_full : (f g h : Filled) (at : ℕ) (new old : Module) (wanted : List Pair) (e : CompareFault) → at < g.count
    → Growing f g (left_at new old at) wanted → Full g h (added (pairs_in g) (leads_to new old (pair_of (row g.rows.now at)))) e → Full f h wanted e
explore_full f g h at new old wanted e l k u =
    let w : List Pair = added (pairs_in g) (leads_to new old (pair_of (row g.rows.now at))) in
    growing_full f g h (left_at new old at) w wanted e k u
    (subst (λ (ys : List Pair). Begins w ys) (sym (explored_more new old g at l)) (explored_begins new old (most_rows - (at + 1)) (at + 1) w))

-- one more move is read
pub read_more : (xs rest before ms : List Move) (k : ℕ) (x : Move) → length xs ≡ most_moves → length ms ≤ most_moves → before ≡ x ∷ rest → take k xs ++ before ≡ ms → k ≤ most_moves
    → (k + 1 ≤ most_moves) × (take (k + 1) (set xs k x) ++ rest ≡ ms)
read_more xs rest before ms k x long few step e l =
    let n : length (take k xs) ≡ k = length-take-le k xs (omega arith) in
    let sum = length-append (take k xs) before in
    let one = ap length step in
    let all = ap length e in
    let room : k + 1 ≤ most_moves = omega arith in
    (room, ap (λ (ys : List Move). ys ++ rest) (take_more_set xs k x (omega arith)) ∙ append_assoc (take k xs) (x ∷ []) rest ∙ ap (λ (ys : List Move). take k xs ++ ys) (sym step) ∙ e)
