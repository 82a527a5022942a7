-- Where more places are under way than can be taken, only how many are open at each level matters.
use Rattle.std.proofs.Common.{◌≡◌, ℕ, suc, ◌+◌, ◌<◌, ◌≤◌, Bool, true, false, not, ◌||◌, ltb, ◌⊎◌, List, [], ◌∷◌, ◌++◌, length, sym, refl, ap, ◌∙◌, inl, inr, arith}
use Rattle.std.proofs.lemmas.List.{length_push}
use Rattle.std.proofs.lemmas.Bool.{true≢false, false≢true}
use Rattle.rows.specs.declared.row.Place.TheVariants.{Nil, Act, Wait, Sum as SumRow}
use Rattle.book_words.specs.Words.{Kind, Word}
use Rattle.book_words.specs.Words.Kind.{alien, other, bad, begins, nil, wait, dot, plus, equals, ends, opens, closes, enter, leave, name, act}
use Rattle.book_grammar.specs.Rows.{Row, newest, Side}
use Rattle.book_grammar.specs.Rows.Row.{plain, named}
use Rattle.book_grammar.specs.Reading.{State, Open, Reading, on, around, finished, complete, parens, at, some, inside, behind, sided}
use Rattle.book_grammar.specs.Reading.State.{outside, title, brace, left, equal, term, point, after}
use Rattle.book_grammar.specs.Reading.Open.{waiting, acting, adding, paren}
use Rattle.book_grammar.specs.Reading.{long, over, begun, tried, smallest, Step, Read, run}
use Rattle.book_grammar.specs.Reading.Step.{stops, goes}
use Rattle.book_grammar.specs.Reading.Read.{refused}
use Rattle.book_grammar.proofs.Bounds.{bounds_of}

-- which of what is open are parentheses
abbrev pub shape : List Open → List Bool
shape [] = []
shape (waiting ∷ os) = false ∷ shape os
shape (acting a ∷ os) = false ∷ shape os
shape (adding k ∷ os) = false ∷ shape os
shape (paren ∷ os) = true ∷ shape os

-- how many wait for a place, in all and before the first parenthesis
abbrev pub ops : List Bool → ℕ
ops [] = 0
ops (false ∷ bs) = suc (ops bs)
ops (true ∷ bs) = ops bs

abbrev pub level : List Bool → ℕ
level [] = 0
level (false ∷ bs) = suc (level bs)
level (true ∷ bs) = 0

abbrev outer : List Bool → List Bool
outer [] = []
outer (false ∷ bs) = outer bs
outer (true ∷ bs) = true ∷ bs

abbrev trues : List Bool → ℕ
trues [] = 0
trues (false ∷ bs) = trues bs
trues (true ∷ bs) = suc (trues bs)

abbrev tail_of : List Bool → List Bool
tail_of [] = []
tail_of (b ∷ bs) = bs

shape_around : (os : List Open) → shape (around os) ≡ outer (shape os)
shape_around [] = refl
shape_around (waiting ∷ os) = shape_around os
shape_around (acting a ∷ os) = shape_around os
shape_around (adding k ∷ os) = shape_around os
shape_around (paren ∷ os) = refl

shape_behind : (os : List Open) → shape (behind os) ≡ tail_of (shape os)
shape_behind [] = refl
shape_behind (waiting ∷ os) = refl
shape_behind (acting a ∷ os) = refl
shape_behind (adding k ∷ os) = refl
shape_behind (paren ∷ os) = refl

parens_shape : (os : List Open) → parens os ≡ trues (shape os)
parens_shape [] = refl
parens_shape (waiting ∷ os) = parens_shape os
parens_shape (acting a ∷ os) = parens_shape os
parens_shape (adding k ∷ os) = parens_shape os
parens_shape (paren ∷ os) = ap suc (parens_shape os)

length_finished : (os : List Open) (R : List Row) → length (finished os R) ≡ length R + level (shape os)
length_finished [] R = omega arith
length_finished (waiting ∷ os) R = omega (arith, length_finished os (R ++ plain (Wait (newest R)) ∷ []), length_push R (plain (Wait (newest R))))
length_finished (acting a ∷ os) R = omega (arith, length_finished os (R ++ plain (Act a (newest R)) ∷ []), length_push R (plain (Act a (newest R))))
length_finished (adding k ∷ os) R = omega (arith, length_finished os (R ++ plain (SumRow k (newest R)) ∷ []), length_push R (plain (SumRow k (newest R))))
length_finished (paren ∷ os) R = omega arith

ops_outer : (bs : List Bool) → ops (outer bs) + level bs ≡ ops bs
ops_outer [] = refl
ops_outer (false ∷ bs) = omega (arith, ops_outer bs)
ops_outer (true ∷ bs) = omega arith

inside_shape : (os os' : List Open) → shape os ≡ shape os' → inside os ≡ inside os'
inside_shape os os' e = at_head os ∙ ap head_of e ∙ sym (at_head os')
  where
    head_of : List Bool → Bool
    head_of [] = false
    head_of (b ∷ bs) = b

    at_head : (xs : List Open) → inside xs ≡ head_of (shape xs)
    at_head [] = refl
    at_head (waiting ∷ xs) = refl
    at_head (acting a ∷ xs) = refl
    at_head (adding k ∷ xs) = refl
    at_head (paren ∷ xs) = refl

some_shape : (os os' : List Open) → shape os ≡ shape os' → some os ≡ some os'
some_shape os os' e = at_some os ∙ ap (λ (bs : List Bool). some bs) e ∙ sym (at_some os')
  where
    at_some : (xs : List Open) → some xs ≡ some (shape xs)
    at_some [] = refl
    at_some (waiting ∷ xs) = refl
    at_some (acting a ∷ xs) = refl
    at_some (adding k ∷ xs) = refl
    at_some (paren ∷ xs) = refl

module _ (p m end : ℕ) where
  -- more places are under way than can be taken
  abbrev pub Overfull : Reading → List Open → List Row → Type 0
  Overfull s os R = (256 < length R + ops (shape os)) ⊎ (p < length s.places + length R + ops (shape os))

  pub over_alike : (s : Reading) (q : State) (os os' : List Open) (R R' : List Row) → shape os ≡ shape os' → length R ≡ length R'
      → over p m (on s q os R) ≡ over p m (on s q os' R')
  over_alike s q os os' R R' e l =
      let k : parens os ≡ parens os' = parens_shape os ∙ ap trues e ∙ sym (parens_shape os') in
      let F : ℕ → ℕ → Bool = λ n j. ltb 64 (begun (on s q [] [])) || (ltb m (begun (on s q [] [])) || (ltb 64 (length s.sides) || (ltb 256 n || (ltb p (length s.places + n) || ltb 32 j)))) in
      ap (λ (n : ℕ). F n (parens os)) l ∙ ap (λ (j : ℕ). F (length R') j) k

  -- from there only the shape and the number of rows matter
  abbrev pub Claim : List Word → Type 0
  Claim ws = (q : State) (s : Reading) (os os' : List Open) (R R' : List Row) → shape os ≡ shape os' → length R ≡ length R' → Overfull s os R
      → (at (on s q os R) term || (at (on s q os R) point || at (on s q os R) after)) ≡ true
      → run p m end (on s q os R) ws ≡ run p m end (on s q os' R') ws

  -- a word that does not refuse by itself
  onward : (ws : List Word) (o : ℕ) (q : State) (s : Reading) (os os' : List Open) (R R' : List Row) → Claim ws → shape os ≡ shape os' → length R ≡ length R' → Overfull s os R
      → (at (on s q os R) term || (at (on s q os R) point || at (on s q os R) after)) ≡ true
      → ◌≡◌ {A = Read} (elim (smallest false true false false false false (over p m (on s q os R)) (on s q os R)) [ stops n ↦ refused n o | goes t ↦ run p m end t ws ])
      (elim (smallest false true false false false false (over p m (on s q os' R')) (on s q os' R')) [ stops n ↦ refused n o | goes t ↦ run p m end t ws ])
  onward ws o q s os os' R R' C e l d h =
      go (over p m (on s q os R)) (over p m (on s q os' R')) (over_alike s q os os' R R' e l)
    where
      go : (x y : Bool) → x ≡ y → ◌≡◌ {A = Read} (elim (smallest false true false false false false x (on s q os R)) [ stops n ↦ refused n o | goes t ↦ run p m end t ws ])
          (elim (smallest false true false false false false y (on s q os' R')) [ stops n ↦ refused n o | goes t ↦ run p m end t ws ])
      go true true i = refl
      go false false i = C q s os os' R R' e l d h
      go true false i = absurd (true≢false i)
      go false true i = absurd (false≢true i)

  grown : (s : Reading) (os : List Open) (R X : List Row) → Overfull s os R → length X + ops (shape (around os)) ≡ length R + suc (ops (shape os)) → Overfull s (around os) X
  grown s os R X (inl h) e = inl (omega arith)
  grown s os R X (inr h) e = inr (omega arith)

  -- a leaf
  leaf : (ws : List Word) (o : ℕ) (s : Reading) (os os' : List Open) (R R' : List Row) (r : Row) → Claim ws → shape os ≡ shape os' → length R ≡ length R' → Overfull s os R
      → ◌≡◌ {A = Read} (elim (smallest false true false false false false (over p m (complete s os (R ++ r ∷ []))) (complete s os (R ++ r ∷ []))) [ stops n ↦ refused n o | goes t ↦ run p m end t ws ])
      (elim (smallest false true false false false false (over p m (complete s os' (R' ++ r ∷ []))) (complete s os' (R' ++ r ∷ []))) [ stops n ↦ refused n o | goes t ↦ run p m end t ws ])
  leaf ws o s os os' R R' r C e l d =
      let a = length_finished os (R ++ r ∷ []) in
      let b = length_finished os' (R' ++ r ∷ []) in
      let c = length_push R r in
      let f = length_push R' r in
      let g : level (shape os) ≡ level (shape os') = ap level e in
      let n : length (finished os (R ++ r ∷ [])) ≡ length (finished os' (R' ++ r ∷ [])) = omega arith in
      let k : length (finished os (R ++ r ∷ [])) + ops (shape (around os)) ≡ length R + suc (ops (shape os)) = omega (arith, ops_outer (shape os), ap ops (shape_around os)) in
      onward ws o after s (around os) (around os') (finished os (R ++ r ∷ [])) (finished os' (R' ++ r ∷ [])) C
      (shape_around os ∙ ap outer e ∙ sym (shape_around os')) n (grown s os R (finished os (R ++ r ∷ [])) d k) refl

  abbrev Told : ℕ → List Word → Step → Read
  Told o ws x = elim x [ stops n ↦ refused n o | goes t ↦ run p m end t ws ]

  more_ops : (s : Reading) (os : List Open) (R : List Row) (o : Open) → ops (shape os) ≤ ops (shape (o ∷ os)) → Overfull s os R → Overfull s (o ∷ os) R
  more_ops s os R o g (inl h) = inl (omega arith)
  more_ops s os R o g (inr h) = inr (omega arith)

  long_leaf : (b : Bool) (ws : List Word) (o : ℕ) (s : Reading) (os os' : List Open) (R R' : List Row) (x : List ℕ) → Claim ws → shape os ≡ shape os' → length R ≡ length R' → Overfull s os R
      → Told o ws (smallest false true false b false false (over p m (complete s os (R ++ named x ∷ []))) (complete s os (R ++ named x ∷ [])))
      ≡ Told o ws (smallest false true false b false false (over p m (complete s os' (R' ++ named x ∷ []))) (complete s os' (R' ++ named x ∷ [])))
  long_leaf true ws o s os os' R R' x C e l d = refl
  long_leaf false ws o s os os' R R' x C e l d = leaf ws o s os os' R R' (named x) C e l d

  shrunk : (s : Reading) (os : List Open) (R X : List Row) → Overfull s os R → length X + ops (shape (around (behind os))) ≡ length R + ops (shape os) → Overfull s (around (behind os)) X
  shrunk s os R X (inl h) e = inl (omega arith)
  shrunk s os R X (inr h) e = inr (omega arith)

  ops_inside : (os : List Open) → inside os ≡ true → ops (shape (behind os)) ≡ ops (shape os)
  ops_inside [] h = absurd (false≢true h)
  ops_inside (waiting ∷ os) h = absurd (false≢true h)
  ops_inside (acting a ∷ os) h = absurd (false≢true h)
  ops_inside (adding k ∷ os) h = absurd (false≢true h)
  ops_inside (paren ∷ os) h = refl

  closing : (ws : List Word) (o : ℕ) (s : Reading) (os os' : List Open) (R R' : List Row) → Claim ws → shape os ≡ shape os' → length R ≡ length R' → Overfull s os R
      → (b b' : Bool) → inside os ≡ b → inside os' ≡ b' → b ≡ b'
      → Told o ws (smallest false b false false false false (over p m (complete s (behind os) R)) (complete s (behind os) R))
      ≡ Told o ws (smallest false b' false false false false (over p m (complete s (behind os') R')) (complete s (behind os') R'))
  closing ws o s os os' R R' C e l d false false i i' j = refl
  closing ws o s os os' R R' C e l d true false i i' j = absurd (true≢false j)
  closing ws o s os os' R R' C e l d false true i i' j = absurd (false≢true j)
  closing ws o s os os' R R' C e l d true true i i' j =
      let sb : shape (behind os) ≡ shape (behind os') = shape_behind os ∙ ap tail_of e ∙ sym (shape_behind os') in
      let a = length_finished (behind os) R in
      let b = length_finished (behind os') R' in
      let g : level (shape (behind os)) ≡ level (shape (behind os')) = ap level sb in
      let n : length (finished (behind os) R) ≡ length (finished (behind os') R') = omega arith in
      let k : length (finished (behind os) R) + ops (shape (around (behind os))) ≡ length R + ops (shape os) = omega (arith, ops_outer (shape (behind os)), ap ops (shape_around (behind os)), ops_inside os i) in
      onward ws o after s (around (behind os)) (around (behind os')) (finished (behind os) R) (finished (behind os') R') C
      (shape_around (behind os) ∙ ap outer sb ∙ sym (shape_around (behind os'))) n (shrunk s os R (finished (behind os) R) d k) refl

  ops_none : (os : List Open) → some os ≡ false → ops (shape os) ≡ 0
  ops_none [] h = refl
  ops_none (o ∷ os) h = absurd (true≢false h)

  -- an equation that ends has no place too many
  no_end : (s : Reading) (os : List Open) (R : List Row) (E : List Side) → Overfull s os R → some os ≡ false
      → over p m (record { state = left; opened = []; rows = R; sides = E; titles = s.titles; places = s.places; modules = s.modules }) ≡ false → ⊥
  no_end s os R E (inl h) n o =
      let b = bounds_of p m (record { state = left; opened = []; rows = R; sides = E; titles = s.titles; places = s.places; modules = s.modules }) o in omega (arith, b.rows, ops_none os n)
  no_end s os R E (inr h) n o =
      let b = bounds_of p m (record { state = left; opened = []; rows = R; sides = E; titles = s.titles; places = s.places; modules = s.modules }) o in omega (arith, b.room, ops_none os n)

  ending : (ws : List Word) (o : ℕ) (t t' : Reading) (b b' x x' : Bool) → b ≡ b' → (b ≡ false → x ≡ false → ⊥) → (b' ≡ false → x' ≡ false → ⊥)
      → Told o ws (smallest false (not b) false false false false x t) ≡ Told o ws (smallest false (not b') false false false false x' t')
  ending ws o t t' true true x x' e f g = refl
  ending ws o t t' true false x x' e f g = absurd (true≢false e)
  ending ws o t t' false true x x' e f g = absurd (false≢true e)
  ending ws o t t' false false true true e f g = refl
  ending ws o t t' false false true false e f g = absurd (g refl refl)
  ending ws o t t' false false false x' e f g = absurd (f refl refl)

  overfull_too : (s : Reading) (os os' : List Open) (R R' : List Row) → shape os ≡ shape os' → length R ≡ length R' → Overfull s os R → Overfull s os' R'
  overfull_too s os os' R R' e l (inl h) = inl (omega (arith, ap ops e))
  overfull_too s os os' R R' e l (inr h) = inr (omega (arith, ap ops e))

  told : (k : Kind) (o : ℕ) (ws : List Word) → Claim ws → (q : State) (s : Reading) (os os' : List Open) (R R' : List Row) → shape os ≡ shape os' → length R ≡ length R' → Overfull s os R
      → (at (on s q os R) term || (at (on s q os R) point || at (on s q os R) after)) ≡ true
      → Told o ws (tried p m (on s q os R) k) ≡ Told o ws (tried p m (on s q os' R') k)
  told alien o ws C outside s os os' R R' e l d h = absurd (false≢true h)
  told alien o ws C title s os os' R R' e l d h = absurd (false≢true h)
  told alien o ws C brace s os os' R R' e l d h = absurd (false≢true h)
  told alien o ws C left s os os' R R' e l d h = absurd (false≢true h)
  told alien o ws C equal s os os' R R' e l d h = absurd (false≢true h)
  told alien o ws C term s os os' R R' e l d h = refl
  told alien o ws C point s os os' R R' e l d h = refl
  told alien o ws C after s os os' R R' e l d h = refl
  told other o ws C outside s os os' R R' e l d h = absurd (false≢true h)
  told other o ws C title s os os' R R' e l d h = absurd (false≢true h)
  told other o ws C brace s os os' R R' e l d h = absurd (false≢true h)
  told other o ws C left s os os' R R' e l d h = absurd (false≢true h)
  told other o ws C equal s os os' R R' e l d h = absurd (false≢true h)
  told other o ws C term s os os' R R' e l d h = refl
  told other o ws C point s os os' R R' e l d h = refl
  told other o ws C after s os os' R R' e l d h = refl
  told bad o ws C outside s os os' R R' e l d h = absurd (false≢true h)
  told bad o ws C title s os os' R R' e l d h = absurd (false≢true h)
  told bad o ws C brace s os os' R R' e l d h = absurd (false≢true h)
  told bad o ws C left s os os' R R' e l d h = absurd (false≢true h)
  told bad o ws C equal s os os' R R' e l d h = absurd (false≢true h)
  told bad o ws C term s os os' R R' e l d h = refl
  told bad o ws C point s os os' R R' e l d h = refl
  told bad o ws C after s os os' R R' e l d h = refl
  told begins o ws C outside s os os' R R' e l d h = absurd (false≢true h)
  told begins o ws C title s os os' R R' e l d h = absurd (false≢true h)
  told begins o ws C brace s os os' R R' e l d h = absurd (false≢true h)
  told begins o ws C left s os os' R R' e l d h = absurd (false≢true h)
  told begins o ws C equal s os os' R R' e l d h = absurd (false≢true h)
  told begins o ws C term s os os' R R' e l d h = refl
  told begins o ws C point s os os' R R' e l d h = refl
  told begins o ws C after s os os' R R' e l d h = refl
  told nil o ws C outside s os os' R R' e l d h = absurd (false≢true h)
  told nil o ws C title s os os' R R' e l d h = absurd (false≢true h)
  told nil o ws C brace s os os' R R' e l d h = absurd (false≢true h)
  told nil o ws C left s os os' R R' e l d h = absurd (false≢true h)
  told nil o ws C equal s os os' R R' e l d h = absurd (false≢true h)
  told nil o ws C term s os os' R R' e l d h = leaf ws o s os os' R R' (plain Nil) C e l d
  told nil o ws C point s os os' R R' e l d h = refl
  told nil o ws C after s os os' R R' e l d h = refl
  told wait o ws C outside s os os' R R' e l d h = absurd (false≢true h)
  told wait o ws C title s os os' R R' e l d h = absurd (false≢true h)
  told wait o ws C brace s os os' R R' e l d h = absurd (false≢true h)
  told wait o ws C left s os os' R R' e l d h = absurd (false≢true h)
  told wait o ws C equal s os os' R R' e l d h = absurd (false≢true h)
  told wait o ws C term s os os' R R' e l d h = onward ws o point s (waiting ∷ os) (waiting ∷ os') R R' C (ap (λ (y : List Bool). false ∷ y) e) l (more_ops s os R waiting (omega arith) d) refl
  told wait o ws C point s os os' R R' e l d h = refl
  told wait o ws C after s os os' R R' e l d h = refl
  told dot o ws C outside s os os' R R' e l d h = absurd (false≢true h)
  told dot o ws C title s os os' R R' e l d h = absurd (false≢true h)
  told dot o ws C brace s os os' R R' e l d h = absurd (false≢true h)
  told dot o ws C left s os os' R R' e l d h = absurd (false≢true h)
  told dot o ws C equal s os os' R R' e l d h = absurd (false≢true h)
  told dot o ws C term s os os' R R' e l d h = refl
  told dot o ws C point s os os' R R' e l d h = onward ws o term s os os' R R' C e l d refl
  told dot o ws C after s os os' R R' e l d h = refl
  told plus o ws C outside s os os' R R' e l d h = absurd (false≢true h)
  told plus o ws C title s os os' R R' e l d h = absurd (false≢true h)
  told plus o ws C brace s os os' R R' e l d h = absurd (false≢true h)
  told plus o ws C left s os os' R R' e l d h = absurd (false≢true h)
  told plus o ws C equal s os os' R R' e l d h = absurd (false≢true h)
  told plus o ws C term s os os' R R' e l d h = refl
  told plus o ws C point s os os' R R' e l d h = refl
  told plus o ws C after s os os' R R' e l d h = onward ws o term s (adding (newest R) ∷ os) (adding (newest R') ∷ os') R R' C (ap (λ (y : List Bool). false ∷ y) e) l (more_ops s os R (adding (newest R)) (omega arith) d) refl
  told equals o ws C outside s os os' R R' e l d h = absurd (false≢true h)
  told equals o ws C title s os os' R R' e l d h = absurd (false≢true h)
  told equals o ws C brace s os os' R R' e l d h = absurd (false≢true h)
  told equals o ws C left s os os' R R' e l d h = absurd (false≢true h)
  told equals o ws C equal s os os' R R' e l d h = absurd (false≢true h)
  told equals o ws C term s os os' R R' e l d h = refl
  told equals o ws C point s os os' R R' e l d h = refl
  told equals o ws C after s os os' R R' e l d h = refl
  told ends o ws C outside s os os' R R' e l d h = absurd (false≢true h)
  told ends o ws C title s os os' R R' e l d h = absurd (false≢true h)
  told ends o ws C brace s os os' R R' e l d h = absurd (false≢true h)
  told ends o ws C left s os os' R R' e l d h = absurd (false≢true h)
  told ends o ws C equal s os os' R R' e l d h = absurd (false≢true h)
  told ends o ws C term s os os' R R' e l d h = refl
  told ends o ws C point s os os' R R' e l d h = refl
  told ends o ws C after s os os' R R' e l d h = ending ws o _ _ (some os) (some os') _ _ (some_shape os os' e) (λ i j. no_end s os R (sided s.sides (newest R)) d i j) (λ i j. no_end s os' R' (sided s.sides (newest R')) (overfull_too s os os' R R' e l d) i j)
  told opens o ws C outside s os os' R R' e l d h = absurd (false≢true h)
  told opens o ws C title s os os' R R' e l d h = absurd (false≢true h)
  told opens o ws C brace s os os' R R' e l d h = absurd (false≢true h)
  told opens o ws C left s os os' R R' e l d h = absurd (false≢true h)
  told opens o ws C equal s os os' R R' e l d h = absurd (false≢true h)
  told opens o ws C term s os os' R R' e l d h = onward ws o term s (paren ∷ os) (paren ∷ os') R R' C (ap (λ (y : List Bool). true ∷ y) e) l (more_ops s os R paren (omega arith) d) refl
  told opens o ws C point s os os' R R' e l d h = refl
  told opens o ws C after s os os' R R' e l d h = refl
  told closes o ws C outside s os os' R R' e l d h = absurd (false≢true h)
  told closes o ws C title s os os' R R' e l d h = absurd (false≢true h)
  told closes o ws C brace s os os' R R' e l d h = absurd (false≢true h)
  told closes o ws C left s os os' R R' e l d h = absurd (false≢true h)
  told closes o ws C equal s os os' R R' e l d h = absurd (false≢true h)
  told closes o ws C term s os os' R R' e l d h = refl
  told closes o ws C point s os os' R R' e l d h = refl
  told closes o ws C after s os os' R R' e l d h = closing ws o s os os' R R' C e l d (inside os) (inside os') refl refl (inside_shape os os' e)
  told enter o ws C outside s os os' R R' e l d h = absurd (false≢true h)
  told enter o ws C title s os os' R R' e l d h = absurd (false≢true h)
  told enter o ws C brace s os os' R R' e l d h = absurd (false≢true h)
  told enter o ws C left s os os' R R' e l d h = absurd (false≢true h)
  told enter o ws C equal s os os' R R' e l d h = absurd (false≢true h)
  told enter o ws C term s os os' R R' e l d h = refl
  told enter o ws C point s os os' R R' e l d h = refl
  told enter o ws C after s os os' R R' e l d h = refl
  told leave o ws C outside s os os' R R' e l d h = absurd (false≢true h)
  told leave o ws C title s os os' R R' e l d h = absurd (false≢true h)
  told leave o ws C brace s os os' R R' e l d h = absurd (false≢true h)
  told leave o ws C left s os os' R R' e l d h = absurd (false≢true h)
  told leave o ws C equal s os os' R R' e l d h = absurd (false≢true h)
  told leave o ws C term s os os' R R' e l d h = refl
  told leave o ws C point s os os' R R' e l d h = refl
  told leave o ws C after s os os' R R' e l d h = refl
  told (name x) o ws C outside s os os' R R' e l d h = absurd (false≢true h)
  told (name x) o ws C title s os os' R R' e l d h = absurd (false≢true h)
  told (name x) o ws C brace s os os' R R' e l d h = absurd (false≢true h)
  told (name x) o ws C left s os os' R R' e l d h = absurd (false≢true h)
  told (name x) o ws C equal s os os' R R' e l d h = absurd (false≢true h)
  told (name x) o ws C term s os os' R R' e l d h = long_leaf (long (name x)) ws o s os os' R R' x C e l d
  told (name x) o ws C point s os os' R R' e l d h = refl
  told (name x) o ws C after s os os' R R' e l d h = refl
  told (act a) o ws C outside s os os' R R' e l d h = absurd (false≢true h)
  told (act a) o ws C title s os os' R R' e l d h = absurd (false≢true h)
  told (act a) o ws C brace s os os' R R' e l d h = absurd (false≢true h)
  told (act a) o ws C left s os os' R R' e l d h = absurd (false≢true h)
  told (act a) o ws C equal s os os' R R' e l d h = absurd (false≢true h)
  told (act a) o ws C term s os os' R R' e l d h = onward ws o point s (acting a ∷ os) (acting a ∷ os') R R' C (ap (λ (y : List Bool). false ∷ y) e) l (more_ops s os R (acting a) (omega arith) d) refl
  told (act a) o ws C point s os os' R R' e l d h = refl
  told (act a) o ws C after s os os' R R' e l d h = refl

  end_overfull : (q : State) (s : Reading) (os os' : List Open) (R R' : List Row)
      → (at (on s q os R) term || (at (on s q os R) point || at (on s q os R) after)) ≡ true
      → run p m end (on s q os R) [] ≡ run p m end (on s q os' R') []
  end_overfull outside s os os' R R' h = absurd (false≢true h)
  end_overfull title s os os' R R' h = absurd (false≢true h)
  end_overfull brace s os os' R R' h = absurd (false≢true h)
  end_overfull left s os os' R R' h = absurd (false≢true h)
  end_overfull equal s os os' R R' h = absurd (false≢true h)
  end_overfull term s os os' R R' h = refl
  end_overfull point s os os' R R' h = refl
  end_overfull after s os os' R R' h = refl

  -- once more places are under way than can be taken, only how many are open at each level matters
  pub overfull_run : (ws : List Word) → Claim ws
  overfull_run [] q s os os' R R' e l d h = end_overfull q s os os' R R' h
  overfull_run (w ∷ ws) q s os os' R R' e l d h = told w.kind w.at ws (overfull_run ws) q s os os' R R' e l d h
