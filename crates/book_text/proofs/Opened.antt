-- What is open, as ops and floors stand for it.
use Rattle.std.proofs.Common.{◌≡◌, ℕ, zero, suc, ◌+◌, ◌-◌, ◌<◌, ◌≤◌, ◌≢◌, List, [], ◌∷◌, ◌++◌, length, get_or, take, set, sym, refl, ap, ◌∙◌, subst, arith}
use Rattle.std.proofs.lemmas.List.{append-nil, get_or-set_same, get_or-set_other, length_push, length-take-le, get_or-take, get_or_push, get_or_append_left}
use Rattle.book_grammar.specs.Reading.{Open as Entry, around, parens}
use Rattle.book_grammar.specs.Reading.Open.{paren}
use Rattle.book_grammar.proofs.Overfull.{shape, ops}
use Rattle.book_text.specs.declared.parser.Open.{Open}
use Rattle.book_text.specs.declared.parser.Open.TheVariants.{Waiting, Acting, Adding}
use Rattle.book_text.specs.Parsers.{open_in, op_at, above, floor_of, opened_in}
use Rattle.book_text.specs.Steps.{Tidy}

-- an op that is written is above those below it
above_set : (os : List Open) (i : ℕ) (o : Open) (low k : ℕ) → low + k ≤ i → above (set os i o) low k ≡ above os low k
above_set os i o low zero h = refl
above_set os i o low (suc k) h =
    let ne : low + k ≢ i = omega arith in
    ap (λ (x : Open). open_in x ∷ above (set os i o) low k) (get_or-set_other os i (low + k) o Waiting ne)
    ∙ ap (λ (l : List Entry). open_in (op_at os (low + k)) ∷ l) (above_set os i o low k (omega arith))

opened_set : (os : List Open) (i : ℕ) (o : Open) (floors : List ℕ) (k n : ℕ) → Tidy floors k n → n ≤ i → opened_in (set os i o) floors k n ≡ opened_in os floors k n
opened_set os i o floors zero n t h = above_set os i o 0 n (omega arith)
opened_set os i o floors (suc k) n t h =
    let f = get_or floors k 0 in
    let le : f ≤ n = t.0 in
    ap (λ (l : List Entry). l ++ paren ∷ opened_in (set os i o) floors k f) (above_set os i o f (n - f) (omega arith))
    ∙ ap (λ (l : List Entry). above os f (n - f) ++ paren ∷ l) (opened_set os i o floors k f t.1 (omega arith))

-- one more op
above_push : (os : List Open) (o : Open) (low n k : ℕ) → low ≤ n → k ≡ n + 1 - low
    → above (set os n o) low k ≡ open_in (op_at (set os n o) n) ∷ above os low (n - low)
above_push os o low n k h e =
    let a : k ≡ suc (n - low) = omega arith in
    let b : low + (n - low) ≡ n = omega arith in
    ap (λ (j : ℕ). above (set os n o) low j) a
    ∙ ap (λ (j : ℕ). open_in (op_at (set os n o) j) ∷ above (set os n o) low (n - low)) b
    ∙ ap (λ (l : List Entry). open_in (op_at (set os n o) n) ∷ l) (above_set os n o low (n - low) (omega arith))

pub opened_push : (os : List Open) (o : Open) (floors : List ℕ) (k n : ℕ) → Tidy floors k n
    → opened_in (set os n o) floors k (n + 1) ≡ open_in (op_at (set os n o) n) ∷ opened_in os floors k n
opened_push os o floors zero n t =
    let a : n - 0 ≡ n = omega arith in
    above_push os o 0 n (n + 1) (omega arith) (omega arith) ∙ ap (λ (j : ℕ). open_in (op_at (set os n o) n) ∷ above os 0 j) a
opened_push os o floors (suc k) n t =
    let f = get_or floors k 0 in
    let le : f ≤ n = t.0 in
    ap (λ (l : List Entry). l ++ paren ∷ opened_in (set os n o) floors k f) (above_push os o f n (n + 1 - f) le refl)
    ∙ ap (λ (l : List Entry). open_in (op_at (set os n o) n) ∷ (above os f (n - f) ++ paren ∷ l)) (opened_set os n o floors k f t.1 le)

-- an op is kept where there is room for it, and counts as a wait elsewhere
pub op_kept : (os : List Open) (n : ℕ) (o : Open) → n < length os → op_at (set os n o) n ≡ o
op_kept os n o h = get_or-set_same os n o Waiting h

-- only the floors of the parentheses that are open count
tidy_alike : (floors floors' : List ℕ) (k n : ℕ) → ((j : ℕ) → j < k → get_or floors' j 0 ≡ get_or floors j 0) → Tidy floors k n → Tidy floors' k n
tidy_alike floors floors' zero n e t = tt
tidy_alike floors floors' (suc k) n e t =
    let h = sym (e k (omega arith)) in
    (subst (λ (y : ℕ). y ≤ n) h t.0, subst (λ (y : ℕ). Tidy floors' k y) h (tidy_alike floors floors' k (get_or floors k 0) (λ j i. e j (omega arith)) t.1))

floors_alike : (os : List Open) (floors floors' : List ℕ) (k n : ℕ) → ((j : ℕ) → j < k → get_or floors' j 0 ≡ get_or floors j 0)
    → opened_in os floors' k n ≡ opened_in os floors k n
floors_alike os floors floors' zero n e = refl
floors_alike os floors floors' (suc k) n e =
    ap (λ (y : ℕ). above os y (n - y) ++ paren ∷ opened_in os floors' k y) (e k (omega arith))
    ∙ ap (λ (l : List Entry). above os (get_or floors k 0) (n - get_or floors k 0) ++ paren ∷ l)
    (floors_alike os floors floors' k (get_or floors k 0) (λ j i. e j (omega arith)))

-- one more parenthesis
pub tidy_open : (floors : List ℕ) (n : ℕ) → Tidy floors (length floors) n → Tidy (floors ++ n ∷ []) (length (floors ++ n ∷ [])) n
tidy_open floors n t =
    let f = floors ++ n ∷ [] in
    let one : length f ≡ suc (length floors) = omega (arith, length_push floors n) in
    let e : get_or f (length floors) 0 ≡ n = get_or_push floors n 0 (length floors) refl in
    let t' : Tidy f (length floors) n = tidy_alike floors f (length floors) n (λ j h. get_or_append_left floors (n ∷ []) 0 j h) t in
    subst (λ (k : ℕ). Tidy f k n) (sym one) (omega (arith, e), subst (λ (y : ℕ). Tidy f (length floors) y) (sym e) t')

pub opened_open : (os : List Open) (floors : List ℕ) (n : ℕ) → opened_in os (floors ++ n ∷ []) (length (floors ++ n ∷ [])) n ≡ paren ∷ opened_in os floors (length floors) n
opened_open os floors n =
    let f = floors ++ n ∷ [] in
    let one : length f ≡ suc (length floors) = omega (arith, length_push floors n) in
    let z : n - n ≡ 0 = omega arith in
    ap (λ (k : ℕ). opened_in os f k n) one
    ∙ ap (λ (y : ℕ). above os y (n - y) ++ paren ∷ opened_in os f (length floors) y) (get_or_push floors n 0 (length floors) refl)
    ∙ ap (λ (y : ℕ). above os n y ++ paren ∷ opened_in os f (length floors) n) z
    ∙ ap (λ (l : List Entry). paren ∷ l) (floors_alike os floors f (length floors) n (λ j h. get_or_append_left floors (n ∷ []) 0 j h))

-- what is open below the innermost parenthesis, with it
abbrev pub enclosing : List Open → List ℕ → ℕ → List Entry
enclosing os floors zero = []
enclosing os floors (suc k) = paren ∷ opened_in os floors k (get_or floors k 0)

pub opened_split : (os : List Open) (floors : List ℕ) (k n : ℕ) → opened_in os floors k n ≡ above os (floor_of floors k) (n - floor_of floors k) ++ enclosing os floors k
opened_split os floors zero n =
    let e : n ≡ n - 0 = omega arith in
    ap (λ (j : ℕ). above os 0 j) e ∙ sym (append-nil (above os 0 (n - 0)))
opened_split os floors (suc k) n = refl

pub opened_rest : (os : List Open) (floors : List ℕ) (k : ℕ) → opened_in os floors k (floor_of floors k) ≡ enclosing os floors k
opened_rest os floors k =
    let z : floor_of floors k - floor_of floors k ≡ 0 = omega arith in
    opened_split os floors k (floor_of floors k) ∙ ap (λ (j : ℕ). above os (floor_of floors k) j ++ enclosing os floors k) z

pub tidy_floor : (floors : List ℕ) (k n : ℕ) → Tidy floors k n → Tidy floors k (floor_of floors k)
tidy_floor floors zero n t = tt
tidy_floor floors (suc k) n t = (omega arith, t.1)

pub floor_below : (floors : List ℕ) (k n : ℕ) → Tidy floors k n → floor_of floors k ≤ n
floor_below floors zero n t = omega arith
floor_below floors (suc k) n t = t.0

-- a complete term
around_op : (o : Open) (es : List Entry) → around (open_in o ∷ es) ≡ around es
around_op Waiting es = refl
around_op (Acting a) es = refl
around_op (Adding k) es = refl

around_above : (os : List Open) (low j : ℕ) (es : List Entry) → around (above os low j ++ es) ≡ around es
around_above os low zero es = refl
around_above os low (suc j) es = around_op (op_at os (low + j)) (above os low j ++ es) ∙ around_above os low j es

around_enclosing : (os : List Open) (floors : List ℕ) (k : ℕ) → around (enclosing os floors k) ≡ enclosing os floors k
around_enclosing os floors zero = refl
around_enclosing os floors (suc k) = refl

pub around_opened : (os : List Open) (floors : List ℕ) (k n : ℕ) → around (opened_in os floors k n) ≡ opened_in os floors k (floor_of floors k)
around_opened os floors k n =
    ap around (opened_split os floors k n) ∙ around_above os (floor_of floors k) (n - floor_of floors k) (enclosing os floors k)
    ∙ around_enclosing os floors k ∙ sym (opened_rest os floors k)

parens_op : (o : Open) (es : List Entry) → parens (open_in o ∷ es) ≡ parens es
parens_op Waiting es = refl
parens_op (Acting a) es = refl
parens_op (Adding k) es = refl

parens_above : (os : List Open) (low j : ℕ) (es : List Entry) → parens (above os low j ++ es) ≡ parens es
parens_above os low zero es = refl
parens_above os low (suc j) es = parens_op (op_at os (low + j)) (above os low j ++ es) ∙ parens_above os low j es

pub parens_opened : (os : List Open) (floors : List ℕ) (k n : ℕ) → parens (opened_in os floors k n) ≡ k
parens_opened os floors zero n = ap parens (sym (append-nil (above os 0 n))) ∙ parens_above os 0 n []
parens_opened os floors (suc k) n =
    parens_above os (get_or floors k 0) (n - get_or floors k 0) (paren ∷ opened_in os floors k (get_or floors k 0)) ∙ ap suc (parens_opened os floors k (get_or floors k 0))

-- how many ops are open
pub count_op : (o : Open) (es : List Entry) → ops (shape (open_in o ∷ es)) ≡ suc (ops (shape es))
count_op Waiting es = refl
count_op (Acting a) es = refl
count_op (Adding k) es = refl

count_above : (os : List Open) (low j : ℕ) (es : List Entry) → ops (shape (above os low j ++ es)) ≡ j + ops (shape es)
count_above os low zero es = omega arith
count_above os low (suc j) es = omega (arith, count_op (op_at os (low + j)) (above os low j ++ es), count_above os low j es)

pub count_opened : (os : List Open) (floors : List ℕ) (k n : ℕ) → Tidy floors k n → ops (shape (opened_in os floors k n)) ≡ n
count_opened os floors zero n t = ap (λ (es : List Entry). ops (shape es)) (sym (append-nil (above os 0 n))) ∙ (let c = count_above os 0 n [] in omega arith)
count_opened os floors (suc k) n t =
    let f = get_or floors k 0 in
    let le : f ≤ n = t.0 in
    let a = count_above os f (n - f) (paren ∷ opened_in os floors k f) in
    let b = count_opened os floors k f t.1 in
    omega arith

-- and one that is closed, with no op behind it
pub opened_none : (os : List Open) (floors : List ℕ) (n : ℕ) → length floors ≡ 0 → n ≡ floor_of floors (length floors) → opened_in os floors (length floors) n ≡ []
opened_none os floors n z h =
    ap (λ (x : ℕ). opened_in os floors (length floors) x) h ∙ opened_rest os floors (length floors) ∙ ap (λ (x : ℕ). enclosing os floors x) z

module _ (floors : List ℕ) (n : ℕ) (z : 0 < length floors) (h : n ≡ floor_of floors (length floors)) where
  abbrev lower : List ℕ
  lower = take (length floors - 1) floors

  lower_long : length lower ≡ length floors - 1
  lower_long = length-take-le (length floors - 1) floors (omega arith)

  more : length floors ≡ suc (length floors - 1)
  more = omega arith

  innermost : get_or floors (length floors - 1) 0 ≡ n
  innermost = sym (h ∙ ap (λ (x : ℕ). floor_of floors x) more)

  lower_alike : (j : ℕ) → j < length floors - 1 → get_or lower j 0 ≡ get_or floors j 0
  lower_alike j i = get_or-take (length floors - 1) floors j 0 i

  pub opened_closes : (os : List Open) → opened_in os floors (length floors) n ≡ paren ∷ opened_in os lower (length lower) n
  opened_closes os =
      ap (λ (x : ℕ). opened_in os floors (length floors) x) h ∙ opened_rest os floors (length floors) ∙ ap (λ (x : ℕ). enclosing os floors x) more
      ∙ ap (λ (x : ℕ). paren ∷ opened_in os floors (length floors - 1) x) innermost
      ∙ ap (λ (l : List Entry). paren ∷ l) (sym (floors_alike os floors lower (length floors - 1) n lower_alike))
      ∙ ap (λ (k : ℕ). paren ∷ opened_in os lower k n) (sym lower_long)

  pub tidy_closes : Tidy floors (length floors) n → Tidy lower (length lower) n
  tidy_closes t =
      let t' : Tidy floors (suc (length floors - 1)) n = subst (λ (x : ℕ). Tidy floors x n) more t in
      subst (λ (k : ℕ). Tidy lower k n) (sym lower_long)
      (tidy_alike floors lower (length floors - 1) n lower_alike (subst (λ (x : ℕ). Tidy floors (length floors - 1) x) innermost t'.1))
