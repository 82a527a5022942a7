-- What is added to the rows: each pair of a list that is not there yet, once, behind what is there. Assumes nothing.
use Rattle.std.proofs.Common.{◌≡◌, ℕ, zero, suc, ◌+◌, ◌-◌, ◌<◌, ◌≤◌, Bool, true, false, ◌⊎◌, List, [], ◌∷◌, ◌++◌, length, get_or, sym, refl, ap, ◌∙◌, subst, inl, inr, append_assoc, append-nil, arith}
use Rattle.std.proofs.lemmas.List.{get_or_append_left, get_or-append_right, length-append}
use Rattle.std.proofs.lemmas.Bool.{cases_lt, both_ways}
use Rattle.action.specs.Lists.{◌∈◌}
use Rattle.action.proofs.Basics.{in_left, in_right, in_cases, T_true, true_T}
use Rattle.pair_table.specs.Pairs.{Pair, pair, among, added}
use Rattle.pair_table.proofs.Clause.{among_in, in_among}

abbrev pub nil_pair : Pair
nil_pair = pair 0 0

-- the second list goes on where the first ends
abbrev pub Begins : List Pair → List Pair → Type 0
Begins xs ys = (zs : List Pair) × (ys ≡ xs ++ zs)

pub begins_same : (xs : List Pair) → Begins xs xs
begins_same xs = ([], sym (append-nil xs))

pub begins_on : (xs ys zs : List Pair) → Begins xs ys → Begins ys zs → Begins xs zs
begins_on xs ys zs a b = (a.0 ++ b.0, b.1 ∙ ap (λ (u : List Pair). u ++ b.0) a.1 ∙ append_assoc xs a.0 b.0)

-- no pair stands twice
abbrev pub Once : List Pair → Type 0
Once xs = (i j : ℕ) → i < length xs → j < length xs → get_or xs i nil_pair ≡ get_or xs j nil_pair → i ≡ j

pub in_get_d : (xs : List Pair) (r : Pair) → r ∈ xs → (j : ℕ) × (j < length xs) × (get_or xs j nil_pair ≡ r)
in_get_d [] r i = absurd i
in_get_d (x ∷ xs) r (inl e) = (0, omega arith, sym e)
in_get_d (x ∷ xs) r (inr i) = let s = in_get_d xs r i in (suc s.0, omega (arith, s.1), s.2)

pub get_d_in : (xs : List Pair) (j : ℕ) → j < length xs → get_or xs j nil_pair ∈ xs
get_d_in [] j l = absurd (omega arith)
get_d_in (x ∷ xs) zero l = inl refl
get_d_in (x ∷ xs) (suc j) l = inr (get_d_in xs j (omega arith))

once_push : (xs : List Pair) (x : Pair) → (x ∈ xs → ⊥) → Once xs → Once (xs ++ (x ∷ []))
once_push xs x ne h i j li lj e = go (cases_lt i (length xs)) (cases_lt j (length xs))
  where
    long : length (xs ++ (x ∷ [])) ≡ length xs + 1
    long = length-append xs (x ∷ [])

    before : (k : ℕ) → k < length xs → get_or (xs ++ (x ∷ [])) k nil_pair ≡ get_or xs k nil_pair
    before k l = get_or_append_left xs (x ∷ []) nil_pair k l

    last : (k : ℕ) → k < length (xs ++ (x ∷ [])) → length xs ≤ k → get_or (xs ++ (x ∷ [])) k nil_pair ≡ x
    last k l m =
        let z : k - length xs ≡ 0 = omega (arith, long) in
        get_or-append_right xs (x ∷ []) (length xs) k nil_pair refl m ∙ ap (λ (n : ℕ). get_or (x ∷ []) n nil_pair) z

    apart : (k m : ℕ) → k < length xs → m < length (xs ++ (x ∷ [])) → length xs ≤ m → get_or (xs ++ (x ∷ [])) k nil_pair ≡ get_or (xs ++ (x ∷ [])) m nil_pair → ⊥
    apart k m a l b q = ne (subst (λ (r : Pair). r ∈ xs) (sym (before k a) ∙ q ∙ last m l b) (get_d_in xs k a))

    go : (i < length xs) ⊎ (length xs ≤ i) → (j < length xs) ⊎ (length xs ≤ j) → i ≡ j
    go (inl a) (inl b) = h i j a b (sym (before i a) ∙ e ∙ before j b)
    go (inl a) (inr b) = absurd (apart i j a lj b e)
    go (inr a) (inl b) = absurd (apart j i b li a (sym e))
    go (inr a) (inr b) = omega (arith, long)

-- one pair more
abbrev pub one_more : List Pair → Pair → List Pair
one_more rows x = elim (among rows x.new x.old) [ true ↦ rows | false ↦ rows ++ (x ∷ []) ]

one_more_keeps : (rows : List Pair) (x y : Pair) → y ∈ rows → y ∈ one_more rows x
one_more_keeps rows x y i = go (among rows x.new x.old)
  where
    go : (b : Bool) → ◌∈◌ {A = Pair} y (elim b [ true ↦ rows | false ↦ rows ++ (x ∷ []) ])
    go true = i
    go false = in_left rows (x ∷ []) y i

one_more_has : (rows : List Pair) (x : Pair) → x ∈ one_more rows x
one_more_has rows x = go (among rows x.new x.old) refl
  where
    go : (b : Bool) → among rows x.new x.old ≡ b → ◌∈◌ {A = Pair} x (elim b [ true ↦ rows | false ↦ rows ++ (x ∷ []) ])
    go true e = among_in rows x.new x.old (T_true (among rows x.new x.old) e)
    go false e = in_right rows (x ∷ []) x (inl refl)

one_more_from : (rows : List Pair) (x y : Pair) → y ∈ one_more rows x → (y ∈ rows) ⊎ (y ≡ x)
one_more_from rows x y i = go (among rows x.new x.old) i
  where
    last : (y ∈ rows) ⊎ (y ∈ (x ∷ [])) → (y ∈ rows) ⊎ (y ≡ x)
    last (inl k) = inl k
    last (inr (inl e)) = inr e
    last (inr (inr k)) = absurd k

    go : (b : Bool) → ◌∈◌ {A = Pair} y (elim b [ true ↦ rows | false ↦ rows ++ (x ∷ []) ]) → (y ∈ rows) ⊎ (y ≡ x)
    go true k = inl k
    go false k = last (in_cases rows (x ∷ []) y k)

one_more_begins : (rows : List Pair) (x : Pair) → Begins rows (one_more rows x)
one_more_begins rows x = go (among rows x.new x.old)
  where
    go : (b : Bool) → (zs : List Pair) × (◌≡◌ {A = List Pair} (elim b [ true ↦ rows | false ↦ rows ++ (x ∷ []) ]) (rows ++ zs))
    go true = ([], sym (append-nil rows))
    go false = (x ∷ [], refl)

one_more_once : (rows : List Pair) (x : Pair) → Once rows → Once (one_more rows x)
one_more_once rows x h = go (among rows x.new x.old) refl
  where
    go : (b : Bool) → among rows x.new x.old ≡ b → Once (elim b [ true ↦ rows | false ↦ rows ++ (x ∷ []) ])
    go true e = h
    go false e = once_push rows x (λ i. both_ways (among rows x.new x.old) e (true_T (among rows x.new x.old) (in_among rows x.new x.old i))) h

pub one_more_there : (rows : List Pair) (x : Pair) → among rows x.new x.old ≡ true → one_more rows x ≡ rows
one_more_there rows x e = ap {B = List Pair} (λ (b : Bool). elim b [ true ↦ rows | false ↦ rows ++ (x ∷ []) ]) e

pub one_more_new : (rows : List Pair) (x : Pair) → among rows x.new x.old ≡ false → one_more rows x ≡ rows ++ (x ∷ [])
one_more_new rows x e = ap {B = List Pair} (λ (b : Bool). elim b [ true ↦ rows | false ↦ rows ++ (x ∷ []) ]) e

-- a list more
pub added_keeps : (rows xs : List Pair) (y : Pair) → y ∈ rows → y ∈ added rows xs
added_keeps rows [] y i = i
added_keeps rows (x ∷ xs) y i = added_keeps (one_more rows x) xs y (one_more_keeps rows x y i)

pub added_has : (rows xs : List Pair) (y : Pair) → y ∈ xs → y ∈ added rows xs
added_has rows [] y i = absurd i
added_has rows (x ∷ xs) y (inl e) = subst (λ z. z ∈ added rows (x ∷ xs)) (sym e) (added_keeps (one_more rows x) xs x (one_more_has rows x))
added_has rows (x ∷ xs) y (inr i) = added_has (one_more rows x) xs y i

pub added_from : (rows xs : List Pair) (y : Pair) → y ∈ added rows xs → (y ∈ rows) ⊎ (y ∈ xs)
added_from rows [] y i = inl i
added_from rows (x ∷ xs) y i = go (added_from (one_more rows x) xs y i)
  where
    one : (y ∈ rows) ⊎ (y ≡ x) → (y ∈ rows) ⊎ (y ∈ (x ∷ xs))
    one (inl k) = inl k
    one (inr e) = inr (inl e)

    go : (y ∈ one_more rows x) ⊎ (y ∈ xs) → (y ∈ rows) ⊎ (y ∈ (x ∷ xs))
    go (inl k) = one (one_more_from rows x y k)
    go (inr k) = inr (inr k)

pub added_begins : (rows xs : List Pair) → Begins rows (added rows xs)
added_begins rows [] = begins_same rows
added_begins rows (x ∷ xs) = begins_on rows (one_more rows x) (added (one_more rows x) xs) (one_more_begins rows x) (added_begins (one_more rows x) xs)

pub added_once : (rows xs : List Pair) → Once rows → Once (added rows xs)
added_once rows [] h = h
added_once rows (x ∷ xs) h = added_once (one_more rows x) xs (one_more_once rows x h)

-- one list after another
pub added_append : (rows xs ys : List Pair) → added rows (xs ++ ys) ≡ added (added rows xs) ys
added_append rows [] ys = refl
added_append rows (x ∷ xs) ys = added_append (one_more rows x) xs ys
