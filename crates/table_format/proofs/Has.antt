-- A list that stands in another at an offset. Assumes nothing.
use Rattle.std.proofs.Common.{◌≡◌, ℕ, zero, suc, ◌+◌, ◌-◌, ◌/◌, ◌%◌, ◌<◌, ◌≤◌, ◌⊎◌, List, [], ◌∷◌, ◌++◌, length, get_or, sym, refl, ap, ◌∙◌, inl, inr, arith}
use Rattle.std.proofs.lemmas.List.{get_or_append_left, get_or-append_right, get_or-append-add, length-append, ext_get_or}
use Rattle.std.proofs.lemmas.Bool.{cases_lt}
use Rattle.table_format.specs.Numbers.{byte, pair, two}

abbrev pub Has : List ℕ → ℕ → List ℕ → Type 0
Has b i xs = (k : ℕ) → k < length xs → byte b (i + k) ≡ get_or xs k 0

pub has_nil : (b : List ℕ) (i : ℕ) → Has b i []
has_nil b i k h = absurd (omega arith)

pub has_cons : (b : List ℕ) (i j x : ℕ) (xs : List ℕ) → j ≡ i + 1 → byte b i ≡ x → Has b j xs → Has b i (x ∷ xs)
has_cons b i j x xs p e h zero l = let q : i + 0 ≡ i = omega arith in ap (byte b) q ∙ e
has_cons b i j x xs p e h (suc k) l =
    let q : i + suc k ≡ j + k = omega arith in
    ap (byte b) q ∙ h k (omega arith)

pub has_append : (b : List ℕ) (i j : ℕ) (xs ys : List ℕ) → j ≡ i + length xs → Has b i xs → Has b j ys → Has b i (xs ++ ys)
has_append b i j xs ys p f g k l = go (cases_lt k (length xs))
  where
    go : (k < length xs) ⊎ (length xs ≤ k) → byte b (i + k) ≡ get_or (xs ++ ys) k 0
    go (inl m) = f k m ∙ sym (get_or_append_left xs ys 0 k m)
    go (inr m) =
        let q : i + k ≡ j + (k - length xs) = omega arith in
        ap (byte b) q ∙ g (k - length xs) (omega (arith, length-append xs ys)) ∙ sym (get_or-append_right xs ys (length xs) k 0 refl m)

pub has_left : (b : List ℕ) (i : ℕ) (xs ys : List ℕ) → Has b i (xs ++ ys) → Has b i xs
has_left b i xs ys h k l = h k (omega (arith, length-append xs ys)) ∙ get_or_append_left xs ys 0 k l

pub has_right : (b : List ℕ) (i j : ℕ) (xs ys : List ℕ) → j ≡ i + length xs → Has b i (xs ++ ys) → Has b j ys
has_right b i j xs ys p h k l =
    let q : j + k ≡ i + (length xs + k) = omega arith in
    ap (byte b) q ∙ h (length xs + k) (omega (arith, length-append xs ys)) ∙ get_or-append-add xs ys k 0

pub has_head : (b : List ℕ) (i x : ℕ) (xs : List ℕ) → Has b i (x ∷ xs) → byte b i ≡ x
has_head b i x xs h = let q : i ≡ i + 0 = omega arith in ap (byte b) q ∙ h 0 (omega arith)

pub has_tail : (b : List ℕ) (i j x : ℕ) (xs : List ℕ) → j ≡ i + 1 → Has b i (x ∷ xs) → Has b j xs
has_tail b i j x xs p h k l = let q : j + k ≡ i + suc k = omega arith in ap (byte b) q ∙ h (suc k) (omega arith)

pub has_pair : (b : List ℕ) (i n : ℕ) → Has b i (two n) → pair b i ≡ n
has_pair b i n h = omega (arith, has_head b i (n / 256) (n % 256 ∷ []) h, h 1 (omega arith))

pub pair_has : (b : List ℕ) (i n : ℕ) → byte b (i + 1) < 256 → pair b i ≡ n → Has b i (two n)
pair_has b i n l e =
    has_cons b i (i + 1) (n / 256) (n % 256 ∷ []) refl (omega arith)
    (has_cons b (i + 1) (i + 2) (n % 256) [] (omega arith) (omega arith) (has_nil b (i + 2)))

pub has_whole : (b xs : List ℕ) → length b ≡ length xs → Has b 0 xs → b ≡ xs
has_whole b xs e h = ext_get_or 0 b xs e (λ i l. let q : i ≡ 0 + i = omega arith in ap (byte b) q ∙ h i (omega arith))

pub whole_has : (b xs : List ℕ) → b ≡ xs → Has b 0 xs
whole_has b xs e k l = let q : 0 + k ≡ k = omega arith in ap (byte b) q ∙ ap (λ (ys : List ℕ). get_or ys k 0) e
