-- Rows and the pairs in them. Assumes nothing.
use Rattle.std.proofs.Common.{◌≡◌, ℕ, zero, suc, ◌+◌, ◌<◌, ◌≤◌, true, false, List, [], ◌∷◌, ◌++◌, map, length, get_or, take, drop, set, sym, refl, ap, ◌∙◌, subst, inl, inr, arith}
use Rattle.std.proofs.lemmas.List.{take-map, take_more_set, map_push, length-map, length-take-le, take-append-drop, get_or-map, get_or-take}
use Rattle.std.proofs.lemmas.Bool.{cases_Bool}
use Rattle.action.specs.Lists.{◌∈◌}
use Rattle.action.proofs.Basics.{T_true, true_T}
use Rattle.pair_table.specs.declared.PairRow.{PairRow}
use Rattle.pair_table.specs.Pairs.{Pair, pair, among}
use Rattle.pair_table.specs.Tables.{row_of, laid}
use Rattle.pair_table.specs.Laws.{row}
use Rattle.pair_table.proofs.Clause.{among_in, in_among}
use Rattle.compare.specs.Rows.{fresh, pair_of, pairs_of, Is, Absent}

pub in_row : (n : ℕ) (rows : List PairRow) (p q : ℕ) → pair p q ∈ pairs_of n rows → (j : ℕ) × ((j < n) × Is rows j p q)
in_row zero rows p q i = absurd i
in_row (suc n) [] p q i = absurd i
in_row (suc n) (r ∷ rs) p q (inl e) = (0, (omega arith, (ap (λ (x : Pair). x.new) (sym e), ap (λ (x : Pair). x.old) (sym e))))
in_row (suc n) (r ∷ rs) p q (inr i) = let s = in_row n rs p q i in (suc s.0, (omega (arith, s.1.0), s.1.1))

pub row_in : (n : ℕ) (rows : List PairRow) (j : ℕ) → j < n → n ≤ length rows → pair_of (row rows j) ∈ pairs_of n rows
row_in zero rows j l m = absurd (omega arith)
row_in (suc n) [] j l m = absurd (omega arith)
row_in (suc n) (r ∷ rs) zero l m = inl refl
row_in (suc n) (r ∷ rs) (suc j) l m = inr (row_in n rs j (omega arith) (omega arith))

pub is_in : (n : ℕ) (rows : List PairRow) (j p q : ℕ) → j < n → n ≤ length rows → Is rows j p q → pair p q ∈ pairs_of n rows
is_in n rows j p q l m e =
    subst (λ (x : ℕ). pair x q ∈ pairs_of n rows) e.0 (subst (λ (y : ℕ). pair (row rows j).new y ∈ pairs_of n rows) e.1 (row_in n rows j l m))

pub there : (n : ℕ) (rows : List PairRow) (j p q : ℕ) → j < n → n ≤ length rows → Is rows j p q → among (pairs_of n rows) p q ≡ true
there n rows j p q l m e = true_T (among (pairs_of n rows) p q) (in_among (pairs_of n rows) p q (is_in n rows j p q l m e))

pub absent : (n : ℕ) (rows : List PairRow) (p q : ℕ) → Absent rows n p q → among (pairs_of n rows) p q ≡ false
absent n rows p q h = elim (cases_Bool (among (pairs_of n rows) p q)) [
  | inl t ↦ (let s = in_row n rows p q (among_in (pairs_of n rows) p q (T_true (among (pairs_of n rows) p q) t)) in absurd (h s.0 s.1.0 s.1.1))
  | inr f ↦ f
]

pub length_pairs : (n : ℕ) (rows : List PairRow) → n ≤ length rows → length (pairs_of n rows) ≡ n
length_pairs n rows l = length-take-le n (map pair_of rows) (omega (arith, length-map rows pair_of))

-- one row more
pub pairs_more : (n : ℕ) (rows : List PairRow) (p q : ℕ) → n < length rows → pairs_of (n + 1) (set rows n (fresh p q)) ≡ pairs_of n rows ++ pair p q ∷ []
pairs_more n rows p q l =
    take-map pair_of (n + 1) (set rows n (fresh p q)) ∙ ap (map pair_of) (take_more_set rows n (fresh p q) l) ∙ map_push pair_of (take n rows) (fresh p q)
    ∙ ap (λ (xs : List Pair). xs ++ pair p q ∷ []) (sym (take-map pair_of n rows))

-- the pair of a row that is there
pub pair_at : (n : ℕ) (rows : List PairRow) (i : ℕ) → i < n → n ≤ length rows → get_or (pairs_of n rows) i (pair 0 0) ≡ pair_of (row rows i)
pair_at n rows i l m = get_or-take n (map pair_of rows) i (pair 0 0) l ∙ get_or-map pair_of rows i _ (pair 0 0) (omega arith)

-- rows whose ranks are those of a function are the pairs laid out
front_laid : (f : Pair → ℕ) (n : ℕ) (rows : List PairRow) → n ≤ length rows → ((j : ℕ) → j < n → (row rows j).rank ≡ f (pair_of (row rows j))) → take n rows ≡ map (row_of f) (pairs_of n rows)
front_laid f zero rows l h = refl
front_laid f (suc n) [] l h = absurd (omega arith)
front_laid f (suc n) (r ∷ rs) l h =
    let e : r ≡ row_of f (pair_of r) = ap (λ (k : ℕ). record { new = r.new; old = r.old; rank = k }) (h 0 (omega arith)) in
    ap (λ (x : PairRow). x ∷ take n rs) e ∙ ap (λ (xs : List PairRow). row_of f (pair_of r) ∷ xs) (front_laid f n rs (omega arith) (λ j m. h (suc j) (omega arith)))

pub rows_laid : (f : Pair → ℕ) (n : ℕ) (before after : List PairRow) (ps : List Pair) → n ≤ length after → ((j : ℕ) → j < n → (row after j).rank ≡ f (pair_of (row after j)))
    → pairs_of n after ≡ ps → drop n after ≡ drop n before → after ≡ laid f ps before
rows_laid f n before after ps l h e d =
    let long : length ps ≡ n = ap length (sym e) ∙ length_pairs n after l in
    sym (take-append-drop n after)
    ∙ ap (λ (xs : List PairRow). xs ++ drop n after) (front_laid f n after l h ∙ ap (map (row_of f)) e)
    ∙ ap (λ (xs : List PairRow). map (row_of f) ps ++ xs) (d ∙ ap (λ (m : ℕ). drop m before) (sym long))
