-- The index after a row is added. Assumes nothing.
use Rattle.std.proofs.Common.{◌≡◌, ℕ, ◌+◌, ◌-◌, ◌*◌, ◌/◌, ◌%◌, ◌<◌, ◌≤◌, true, false, eqb, MatchOption, List, length, get_or, set, replicate, sym, refl, ap, ◌∙◌, subst, inl, inr, arith}
use Rattle.std.proofs.lemmas.List.{get_or-replicate, get_or_past, length-replicate, get_or-set_same, get_or-set_other, length-set}
use Rattle.std.proofs.lemmas.Bool.{cases_eq, ne_eqb, eq-eqb}
use Rattle.std.proofs.lemmas.Nat.{div-mul-add}
use Rattle.pair_table.specs.declared.PairRow.{PairRow}
use Rattle.compare.specs.declared.index.Index.{Index}
use Rattle.pair_table.specs.Laws.{row}
use Rattle.pair_table.specs.Pairs.{most_rows}
use Rattle.compare.specs.Rows.{fresh, Is, Absent}
use Rattle.compare.specs.Indexed.{Alone, Apart, Indexed, Last, slot_of, bucket_of, row_at, row_bucket}

-- every element of a list of zeros is 0, also past its end
zeros : (n i : ℕ) → ◌≡◌ {A = ℕ} (get_or (replicate n 0) i 0) 0
zeros n i = grind (arith, get_or-replicate {A = ℕ} n i 0 0, get_or_past {X = ℕ} (replicate n 0) i 0, length-replicate {A = ℕ} n 0)

last_none : (s : ℕ) (rows : List PairRow) (h link : ℕ) → link ≡ 0 → Last s rows h 0 link
last_none s rows h link e =
    record { within = omega arith; hits = λ l. absurd (omega arith); skips = λ j a b _. omega arith }

-- no row is in use yet
pub indexed_none : (s : ℕ) (rows : List PairRow) → Indexed (record { heads = replicate most_rows 0; next = replicate most_rows 0; spread = s; exact = true }) rows 0
indexed_none s rows =
    record {
      heads = λ h _. last_none s rows h _ (zeros most_rows h);
      nexts = λ i l. absurd (omega arith);
      buckets = length-replicate {A = ℕ} most_rows 0;
      links = length-replicate {A = ℕ} most_rows 0;
      within = omega arith;
      few = omega arith;
      apart = λ i j a b _ _. omega arith;
      exact = λ _ i a. absurd (omega arith);
    }

other_row : (s : ℕ) (rows : List PairRow) (m j : ℕ) (v : PairRow) → (j ≡ m → ⊥) → row_bucket s (set rows m v) j ≡ row_bucket s rows j
other_row s rows m j v ne = ap (λ (r : PairRow). bucket_of s r.new r.old) (get_or-set_other rows m j v _ ne)

this_row : (s : ℕ) (rows : List PairRow) (m p q : ℕ) → m < length rows → row_bucket s (set rows m (fresh p q)) m ≡ bucket_of s p q
this_row s rows m p q l = ap (λ (r : PairRow). bucket_of s r.new r.old) (get_or-set_same rows m (fresh p q) _ l)

-- a write behind the first n rows leaves their links
last_kept : (s : ℕ) (rows : List PairRow) (h n link m : ℕ) (v : PairRow) → n ≤ m → Last s rows h n link → Last s (set rows m v) h n link
last_kept s rows h n link m v le k =
    record {
      within = k.within;
      hits = λ l. other_row s rows m (link - 1) v (λ e. omega (arith, k.within)) ∙ k.hits l;
      skips = λ j a b e. k.skips j a b (sym (other_row s rows m j v (λ x. omega arith)) ∙ e);
    }

-- row n is now the last in its bucket
last_this : (s : ℕ) (rows : List PairRow) (h n p q : ℕ) → n < length rows → h ≡ bucket_of s p q → Last s (set rows n (fresh p q)) h (n + 1) (n + 1)
last_this s rows h n p q l e =
    let back : (n + 1) - 1 ≡ n = omega arith in
    record {
      within = omega arith;
      hits = λ _. ap (λ (i : ℕ). row_bucket s (set rows n (fresh p q)) i) back ∙ this_row s rows n p q l ∙ sym e;
      skips = λ j a b _. omega arith;
    }

-- the other buckets stay as they were
last_that : (s : ℕ) (rows : List PairRow) (h n link p q : ℕ) → n < length rows → (h ≡ bucket_of s p q → ⊥) → Last s rows h n link → Last s (set rows n (fresh p q)) h (n + 1) link
last_that s rows h n link p q l ne k =
    let kept : Last s (set rows n (fresh p q)) h n link = last_kept s rows h n link n (fresh p q) (omega arith) k in
    record {
      within = omega (arith, k.within);
      hits = kept.hits;
      skips = λ j a b e. elim (cases_eq j n) [
        | inl same ↦ ne (sym e ∙ ap (λ (i : ℕ). row_bucket s (set rows n (fresh p q)) i) same ∙ this_row s rows n p q l)
        | inr other ↦ kept.skips j a (omega arith) e
      ];
    }

heads_more : (index : Index) (rows : List PairRow) (n p q h : ℕ) → Indexed index rows n → n < length rows → h ≡ bucket_of index.spread p q → h < length index.heads
    → (i : ℕ) → i < most_rows → Last index.spread (set rows n (fresh p q)) i (n + 1) (get_or (set index.heads h (n + 1)) i 0)
heads_more index rows n p q h k l e lh i li = elim (cases_eq i h) [
  | inl same ↦ subst (λ (x : ℕ). Last index.spread (set rows n (fresh p q)) i (n + 1) x)
      (sym (ap (λ (x : ℕ). get_or (set index.heads h (n + 1)) x 0) same ∙ get_or-set_same index.heads h (n + 1) 0 lh))
      (last_this index.spread rows i n p q l (same ∙ e))
  | inr other ↦ subst (λ (x : ℕ). Last index.spread (set rows n (fresh p q)) i (n + 1) x)
      (sym (get_or-set_other index.heads h i (n + 1) 0 other))
      (last_that index.spread rows i n _ p q l (λ x. other (x ∙ sym e)) (k.heads i li))
]

nexts_more : (index : Index) (rows : List PairRow) (n p q h : ℕ) → Indexed index rows n → n < length rows → h ≡ bucket_of index.spread p q → h < most_rows → n < length index.next
    → (i : ℕ) → i < n + 1 → Last index.spread (set rows n (fresh p q)) (row_bucket index.spread (set rows n (fresh p q)) i) i (get_or (set index.next n (get_or index.heads h 0)) i 0)
nexts_more index rows n p q h k l e lh ln i li =
    let rows' : List PairRow = set rows n (fresh p q) in
    let next' : List ℕ = set index.next n (get_or index.heads h 0) in
    elim (cases_eq i n) [
      | inl same ↦
          subst (λ (x : ℕ). Last index.spread rows' (row_bucket index.spread rows' x) x (get_or next' x 0)) (sym same)
          (subst (λ (x : ℕ). Last index.spread rows' (row_bucket index.spread rows' n) n x) (sym (get_or-set_same index.next n (get_or index.heads h 0) 0 ln))
          (subst (λ (x : ℕ). Last index.spread rows' x n (get_or index.heads h 0)) (e ∙ sym (this_row index.spread rows n p q l))
          (last_kept index.spread rows h n _ n (fresh p q) (omega arith) (k.heads h lh))))
      | inr other ↦
          subst (λ (x : ℕ). Last index.spread rows' (row_bucket index.spread rows' i) i x) (sym (get_or-set_other index.next n i (get_or index.heads h 0) 0 other))
          (subst (λ (x : ℕ). Last index.spread rows' x i (get_or index.next i 0)) (sym (other_row index.spread rows n i (fresh p q) other))
          (last_kept index.spread rows (row_bucket index.spread rows i) i _ n (fresh p q) (omega arith) (k.nexts i (omega arith))))
    ]

-- a pair that was absent keeps the rows apart
apart_more : (rows : List PairRow) (n p q : ℕ) → n < length rows → Apart rows n → Absent rows n p q → Apart (set rows n (fresh p q)) (n + 1)
apart_more rows n p q l k h i j li lj en eo =
    let v : PairRow = fresh p q in
    let this : row (set rows n v) n ≡ v = get_or-set_same rows n v _ l in
    let that : (x : ℕ) → (x ≡ n → ⊥) → row (set rows n v) x ≡ row rows x = λ x ne. get_or-set_other rows n x v _ ne in
    elim (cases_eq i n) [
      | inl ei ↦ elim (cases_eq j n) [
        | inl ej ↦ ei ∙ sym ej
        | inr nj ↦ absurd (h j (omega arith) (
          ap (λ (r : PairRow). r.new) (sym (that j nj)) ∙ sym en ∙ ap (λ (x : ℕ). (row (set rows n v) x).new) ei ∙ ap (λ (r : PairRow). r.new) this,
          ap (λ (r : PairRow). r.old) (sym (that j nj)) ∙ sym eo ∙ ap (λ (x : ℕ). (row (set rows n v) x).old) ei ∙ ap (λ (r : PairRow). r.old) this,
        ))
      ]
      | inr ni ↦ elim (cases_eq j n) [
        | inl ej ↦ absurd (h i (omega arith) (
          ap (λ (r : PairRow). r.new) (sym (that i ni)) ∙ en ∙ ap (λ (x : ℕ). (row (set rows n v) x).new) ej ∙ ap (λ (r : PairRow). r.new) this,
          ap (λ (r : PairRow). r.old) (sym (that i ni)) ∙ eo ∙ ap (λ (x : ℕ). (row (set rows n v) x).old) ej ∙ ap (λ (r : PairRow). r.old) this,
        ))
        | inr nj ↦ k i j (omega arith) (omega arith)
            (ap (λ (r : PairRow). r.new) (sym (that i ni)) ∙ en ∙ ap (λ (r : PairRow). r.new) (that j nj))
            (ap (λ (r : PairRow). r.old) (sym (that i ni)) ∙ eo ∙ ap (λ (r : PairRow). r.old) (that j nj))
      ]
    ]

bucket_low : (s p q : ℕ) → bucket_of s p q < most_rows
unfolding bucket_of
bucket_low s p q = omega arith

-- ── an index in which each row is alone in its bucket ──

same_slot : (s p q r t : ℕ) → q < s → t < s → slot_of s p q ≡ slot_of s r t → (p ≡ r) × (q ≡ t)
unfolding slot_of
same_slot s p q r t a b e =
    let ep : p ≡ r = sym (div-mul-add p s q a) ∙ ap (λ (x : ℕ). x / s) e ∙ div-mul-add r s t b in
    let ez : p * s ≡ r * s = ap (λ (x : ℕ). x * s) ep in
    (ep, omega arith)

-- two such pairs in one bucket are the same
alone_same : (s p q r t : ℕ) → Alone s p q → Alone s r t → bucket_of s p q ≡ bucket_of s r t → (p ≡ r) × (q ≡ t)
unfolding bucket_of
alone_same s p q r t a b e = same_slot s p q r t a.0 b.0 (let h : slot_of s p q % most_rows ≡ slot_of s r t % most_rows = e in omega (arith, a.1, b.1))

-- so the head of its bucket tells whether such a pair is there
pub alone_found : (index : Index) (rows : List PairRow) (n p q : ℕ) → Indexed index rows n → index.exact ≡ true → Alone index.spread p q
    → MatchOption (row_at (get_or index.heads (bucket_of index.spread p q) 0)) (Absent rows n p q) (λ i. (i < n) × Is rows i p q)
alone_found index rows n p q k e a = go (get_or index.heads (bucket_of index.spread p q) 0) (k.heads (bucket_of index.spread p q) (bucket_low index.spread p q))
  where
    go : (link : ℕ) → Last index.spread rows (bucket_of index.spread p q) n link → MatchOption (row_at link) (Absent rows n p q) (λ i. (i < n) × Is rows i p q)
    go link l = elim (cases_eq link 0) [
      | inl z ↦ (let c : eqb link 0 ≡ true = eq-eqb link 0 z in
          rw c (λ j lj is. l.skips j (omega arith) lj (ap (λ (x : ℕ). bucket_of index.spread x (row rows j).old) is.0 ∙ ap (bucket_of index.spread p) is.1)))
      | inr nz ↦ (let c : eqb link 0 ≡ false = ne_eqb link 0 nz in
          rw c (
            omega (arith, l.within),
            alone_same index.spread (row rows (link - 1)).new (row rows (link - 1)).old p q (k.exact e (link - 1) (omega (arith, l.within))) a (l.hits (omega arith)),
          ))
    ]

alone_more : (s : ℕ) (rows : List PairRow) (n p q : ℕ) → n < length rows → ((i : ℕ) → i < n → Alone s (row rows i).new (row rows i).old) → Alone s p q
    → (i : ℕ) → i < n + 1 → Alone s (row (set rows n (fresh p q)) i).new (row (set rows n (fresh p q)) i).old
alone_more s rows n p q l k a i li = elim (cases_eq i n) [
  | inl e ↦ subst (λ (r : PairRow). Alone s r.new r.old) (sym (ap (row (set rows n (fresh p q))) e ∙ get_or-set_same rows n (fresh p q) _ l)) a
  | inr ne ↦ subst (λ (r : PairRow). Alone s r.new r.old) (sym (get_or-set_other rows n i (fresh p q) _ ne)) (k i (omega arith))
]

-- one more row in use
pub indexed_more : (index index' : Index) (rows : List PairRow) (n p q : ℕ) → Indexed index rows n → n < length rows → n < most_rows → Absent rows n p q
    → index'.spread ≡ index.spread → (index'.exact ≡ true → (index.exact ≡ true) × Alone index.spread p q)
    → index'.heads ≡ set index.heads (bucket_of index.spread p q) (n + 1) → index'.next ≡ set index.next n (get_or index.heads (bucket_of index.spread p q) 0)
    → Indexed index' (set rows n (fresh p q)) (n + 1)
indexed_more index index' rows n p q k l few gap spread exact heads nexts =
    let h : ℕ = bucket_of index.spread p q in
    let rows' : List PairRow = set rows n (fresh p q) in
    record {
      heads = λ i li. subst (λ (x : ℕ). Last x rows' i (n + 1) (get_or index'.heads i 0)) (sym spread)
          (subst (λ (xs : List ℕ). Last index.spread rows' i (n + 1) (get_or xs i 0)) (sym heads) (heads_more index rows n p q h k l refl (omega (arith, bucket_low index.spread p q, k.buckets)) i li));
      nexts = λ i li. subst (λ (x : ℕ). Last x rows' (row_bucket x rows' i) i (get_or index'.next i 0)) (sym spread)
          (subst (λ (xs : List ℕ). Last index.spread rows' (row_bucket index.spread rows' i) i (get_or xs i 0)) (sym nexts) (nexts_more index rows n p q h k l refl (bucket_low index.spread p q) (omega (arith, k.links)) i li));
      buckets = ap length heads ∙ length-set index.heads h (n + 1) ∙ k.buckets;
      links = ap length nexts ∙ length-set index.next n (get_or index.heads h 0) ∙ k.links;
      within = omega (arith, length-set rows n (fresh p q));
      few = omega arith;
      apart = apart_more rows n p q l k.apart gap;
      exact = λ e i li. subst (λ (x : ℕ). Alone x (row rows' i).new (row rows' i).old) (sym spread) (alone_more index.spread rows n p q l (k.exact (exact e).0) (exact e).1 i li);
    }
