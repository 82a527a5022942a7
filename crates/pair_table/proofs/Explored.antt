-- The rows of a table that suffices are exactly the pairs that are reached from the starts, each once. Assumes nothing.
use Rattle.std.proofs.Common.{◌≡◌, ℕ, zero, suc, ◌+◌, ◌<◌, ◌≤◌, Bool, true, false, ltb, ◌⊎◌, List, [], ◌∷◌, length, get_or, sym, refl, ap, ◌∙◌, subst, inl, inr, arith}
use lib.ListN.{get_or-append}
use Rattle.std.proofs.lemmas.Bool.{ltb-true, ltb-false}
use Rattle.action.specs.Lists.{◌∈◌}
use Rattle.action.proofs.Basics.{le_split}
use Rattle.catalogue.specs.Catalogue.{Module}
use Rattle.pair_table.specs.Pairs.{Pair, pair, starts, leads_to, added, explored, rows, pair_count, most_rows}
use Rattle.pair_table.specs.Laws.{Reached, at_start, by_move, by_tick}
use Rattle.pair_table.proofs.Leads.{leads_moves, leads_ticks, Led, led_by}
use Rattle.pair_table.proofs.Adding.{nil_pair, Begins, begins_same, begins_on, Once, in_get_d, get_d_in, added_keeps, added_has, added_from, added_begins, added_once}

module _ (new old : Module) where
  -- what the first i rows lead to is there
  abbrev pub Covers : ℕ → List Pair → Type 0
  Covers i rows = (j : ℕ) → j < i → (x : Pair) → x ∈ leads_to new old (get_or rows j nil_pair) → x ∈ rows

  abbrev pub Closed : List Pair → Type 0
  Closed rows = (r : Pair) → r ∈ rows → (x : Pair) → x ∈ leads_to new old r → x ∈ rows

  abbrev pub AllReached : List Pair → Type 0
  AllReached rows = (p q : ℕ) → pair p q ∈ rows → Reached new old p q

  closed : (i : ℕ) (rows : List Pair) → length rows ≤ i → Covers i rows → Closed rows
  closed i rows l h r m x k = let s = in_get_d rows r m in h s.0 (omega (arith, s.1)) x (subst (λ z. x ∈ leads_to new old z) (sym s.2) k)

  -- the rows once row i is taken
  abbrev pub next : ℕ → List Pair → List Pair
  next i rows = added rows (leads_to new old (get_or rows i nil_pair))

  covers_next : (i : ℕ) (rows : List Pair) → i < length rows → Covers i rows → Covers (suc i) (next i rows)
  covers_next i rows l h j m x k = go (le_split (suc j) (suc i) m)
    where
      before : (j : ℕ) → j ≤ i → get_or (next i rows) j nil_pair ≡ get_or rows j nil_pair
      before j b =
          let s = added_begins rows (leads_to new old (get_or rows i nil_pair)) in
          ap (λ l. get_or l j nil_pair) s.1 ∙ get_or-append rows s.0 nil_pair j (omega arith)

      led_from : (j : ℕ) → j ≤ i → x ∈ leads_to new old (get_or (next i rows) j nil_pair) → x ∈ leads_to new old (get_or rows j nil_pair)
      led_from j b = subst (λ z. x ∈ leads_to new old z) (before j b)

      go : (suc j ≡ suc i) ⊎ (suc (suc j) ≤ suc i) → x ∈ next i rows
      go (inl e) = let q : j ≡ i = omega arith in added_has rows (leads_to new old (get_or rows i nil_pair)) x (subst (λ z. x ∈ leads_to new old (get_or rows z nil_pair)) q (led_from j (omega arith) k))
      go (inr b) = added_keeps rows (leads_to new old (get_or rows i nil_pair)) x (h j (omega arith) x (led_from j (omega arith) k))

  led_reached : (p q d e : ℕ) → Reached new old p q → Led new old p q d e → Reached new old d e
  led_reached p q d e r (inl s) = by_move s.0 p q d e r s.1 s.2
  led_reached p q d e r (inr s) = by_tick p q d e r s.0 s.1

  reached_next : (i : ℕ) (rows : List Pair) → i < length rows → AllReached rows → AllReached (next i rows)
  reached_next i rows l h p q m = go (added_from rows (leads_to new old (get_or rows i nil_pair)) (pair p q) m)
    where
      r : Pair
      r = get_or rows i nil_pair

      go : (pair p q ∈ rows) ⊎ (pair p q ∈ leads_to new old r) → Reached new old p q
      go (inl k) = h p q k
      go (inr k) = led_reached r.new r.old p q (h r.new r.old (get_d_in rows i l)) (led_by new old r.new r.old p q k)

  -- what a step of the exploration keeps, the whole exploration keeps
  explored_by : (P : List Pair → Type 0) → ((i : ℕ) (rows : List Pair) → i < length rows → P rows → P (next i rows)) → (n i : ℕ) (rows : List Pair) → P rows → P (explored new old n i rows)
  unfolding explored
  explored_by P step zero i rows h = h
  explored_by P step (suc n) i rows h = go (ltb i (length rows)) refl (explored_by P step n (suc i) (next i rows))
    where
      go : (b : Bool) → ltb i (length rows) ≡ b → (P (next i rows) → P (explored new old n (suc i) (next i rows))) → P (elim b [ true ↦ explored new old n (suc i) (next i rows) | false ↦ rows ])
      go true e rec = rec (step i rows (ltb-true i (length rows) e) h)
      go false e rec = h

  pub explored_begins : (n i : ℕ) (rows : List Pair) → Begins rows (explored new old n i rows)
  explored_begins n i rows =
      explored_by (Begins rows) (λ j xs l h. begins_on rows xs (next j xs) h (added_begins xs (leads_to new old (get_or xs j nil_pair)))) n i rows (begins_same rows)

  explored_closed : (n i : ℕ) (rows : List Pair) → Covers i rows → length (explored new old n i rows) ≤ i + n → Closed (explored new old n i rows)
  unfolding explored
  explored_closed zero i rows h l = closed i rows (omega arith) h
  explored_closed (suc n) i rows h l = go (ltb i (length rows)) refl l (explored_closed n (suc i) (next i rows))
    where
      go : (b : Bool) → ltb i (length rows) ≡ b → length {A = Pair} (elim b [ true ↦ explored new old n (suc i) (next i rows) | false ↦ rows ]) ≤ i + suc n → (Covers (suc i) (next i rows) → length (explored new old n (suc i) (next i rows)) ≤ suc i + n → Closed (explored new old n (suc i) (next i rows))) → Closed (elim b [ true ↦ explored new old n (suc i) (next i rows) | false ↦ rows ])
      go true e k rec = rec (covers_next i rows (ltb-true i (length rows) e) h) (omega arith)
      go false e k rec = closed i rows (ltb-false i (length rows) e) h

  abbrev begun : List Pair
  begun = starts new old ∷ []

  pub start_there : starts new old ∈ rows new old
  unfolding rows
  start_there = explored_by (λ xs. starts new old ∈ xs) (λ i xs l h. added_keeps xs (leads_to new old (get_or xs i nil_pair)) (starts new old) h) most_rows 0 begun (inl refl)

  pub rows_once : Once (rows new old)
  unfolding rows
  rows_once = explored_by Once (λ i xs l h. added_once xs (leads_to new old (get_or xs i nil_pair)) h) most_rows 0 begun (λ i j a b e. omega arith)

  pub rows_reached : AllReached (rows new old)
  unfolding rows
  rows_reached = explored_by AllReached reached_next most_rows 0 begun first
    where
      first : AllReached begun
      first p q (inl e) = subst (λ (x : Pair). Reached new old x.new x.old) (sym e) at_start
      first p q (inr k) = absurd k

  pub rows_closed : pair_count new old ≤ most_rows → Closed (rows new old)
  unfolding rows pair_count
  rows_closed h = explored_closed most_rows 0 begun (λ j l. absurd (omega arith)) (omega arith)

pub reached_rows : (new old : Module) → pair_count new old ≤ most_rows → (p q : ℕ) → Reached new old p q → pair p q ∈ rows new old
reached_rows new old h p q at_start = start_there new old
reached_rows new old h p q (by_move a x y p' q' r m n) = rows_closed new old h (pair x y) (reached_rows new old h x y r) (pair p q) (leads_moves new old x y a p q m n)
reached_rows new old h p q (by_tick x y p' q' r m n) = rows_closed new old h (pair x y) (reached_rows new old h x y r) (pair p q) (leads_ticks new old x y p q m n)
