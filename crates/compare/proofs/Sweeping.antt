-- A sweep lowers ranks and keeps them fair, and where none falls every row is steady. Assumes nothing.
use Rattle.std.proofs.Common.{◌≡◌, ℕ, zero, suc, ◌+◌, ◌-◌, ◌^◌, ◌<◌, ◌≤◌, min, Bool, true, false, cond, eqb, ◌⊎◌, Some, None, Option, unwrap_or, MatchOption, List, [], ◌∷◌, map, length, get_or, take, set, sym, refl, ap, ◌∙◌, subst, inl, inr, arith}
use lib.ListN.{get_or-map}
use Rattle.std.proofs.lemmas.List.{get_or-set_same, get_or-set_other, length-map, drop-set-lt}
use Rattle.std.proofs.lemmas.Bool.{cases_eq, cases_lt, ne_eqb, eq-eqb}
use Rattle.action.specs.Lists.{◌∈◌}
use Rattle.catalogue.specs.declared.Move.{Move}
use Rattle.catalogue.specs.Catalogue.{Module}
use Rattle.pair_table.specs.declared.PairRow.{PairRow}
use Rattle.pair_table.specs.Pairs.{Pair, pair, most_rows}
use Rattle.pair_table.specs.Rounds.{round, rank}
use Rattle.pair_table.specs.Laws.{row}
use Rattle.pair_table.proofs.Rounds.{none_round}
use Rattle.compare.specs.declared.index.Index.{Index}
use Rattle.compare.specs.declared.ranking.Side.{Side}
use Rattle.compare.specs.declared.ranking.Side.TheVariants.{New, Old}
use Rattle.compare.specs.Rows.{pair_of, pairs_of}
use Rattle.compare.specs.Indexed.{Alone, Indexed, Last, bucket_of, row_bucket}
use Rattle.compare.specs.Growth.{Unranked}
use Rattle.compare.specs.Ranks.{Modest, Lasts, Sooner, HoldsAll, GoneOne, TickHolds, TickGone, Steady, Fails, JudgedRow, total, missing, unranked, heavy, weight, Fair, Alike, Hurries, Beyond, DoneTo, AtLeast, Swept}
use Rattle.compare.proofs.Ranks.{fails_sound, beyond_down, steady_next, kept_hurries, steady_ranked}
use Rattle.compare.proofs.Rows.{row_in}

-- ── rows with the same pairs ──

pair_alike : (t u : List PairRow) (n j : ℕ) → Alike t u n → pair_of (row u j) ≡ pair_of (row t j)
pair_alike t u n j a = sym (get_or-map pair_of u j _) ∙ ap (λ (ps : List Pair). get_or ps j (pair 0 0)) a.pairs ∙ get_or-map pair_of t j _

pub long_alike : (t u : List PairRow) (n : ℕ) → Alike t u n → length u ≡ length t
long_alike t u n a = sym (length-map u pair_of) ∙ ap length a.pairs ∙ length-map t pair_of

bucket_alike : (s : ℕ) (t u : List PairRow) (n j : ℕ) → Alike t u n → row_bucket s u j ≡ row_bucket s t j
bucket_alike s t u n j a = ap (λ (x : Pair). bucket_of s x.new x.old) (pair_alike t u n j a)

last_alike : (s : ℕ) (t u : List PairRow) (n b m link : ℕ) → Alike t u n → Last s t b m link → Last s u b m link
last_alike s t u n b m link a k =
    record {
      within = k.within;
      hits = λ l. bucket_alike s t u n (link - 1) a ∙ k.hits l;
      skips = λ j x y e. k.skips j x y (sym (bucket_alike s t u n j a) ∙ e);
    }

indexed_alike : (index : Index) (t u : List PairRow) (n : ℕ) → Alike t u n → Indexed index t n → Indexed index u n
indexed_alike index t u n a k =
    let new : (j : ℕ) → (row u j).new ≡ (row t j).new = λ j. ap (λ (x : Pair). x.new) (pair_alike t u n j a) in
    let old : (j : ℕ) → (row u j).old ≡ (row t j).old = λ j. ap (λ (x : Pair). x.old) (pair_alike t u n j a) in
    record {
      heads = λ b l. last_alike index.spread t u n b n _ a (k.heads b l);
      nexts = λ i l. subst (λ (b : ℕ). Last index.spread u b i (get_or index.next i 0)) (sym (bucket_alike index.spread t u n i a)) (last_alike index.spread t u n _ i _ a (k.nexts i l));
      buckets = k.buckets;
      links = k.links;
      within = omega (arith, k.within, long_alike t u n a);
      few = k.few;
      apart = λ i j li lj en eo. k.apart i j li lj (sym (new i) ∙ en ∙ new j) (sym (old i) ∙ eo ∙ old j);
      exact = λ e i l. subst (λ (x : Pair). Alone index.spread x.new x.old) (sym (pair_alike t u n i a)) (k.exact e i l);
    }

pub alike_on : (t u v : List PairRow) (n : ℕ) → Alike t u n → Alike u v n → Alike t v n
alike_on t u v n a b = record { pairs = b.pairs ∙ a.pairs; rest = b.rest ∙ a.rest }

pub pairs_alike : (t u : List PairRow) (n : ℕ) → Alike t u n → pairs_of n u ≡ pairs_of n t
pairs_alike t u n a = ap (take n) a.pairs

-- ── a write ──

-- row i with another rank
abbrev with : List PairRow → ℕ → ℕ → List PairRow
with t i r = set t i (record { new = (row t i).new; old = (row t i).old; rank = r })

pairs_write : (t : List PairRow) (i r : ℕ) → map pair_of (with t i r) ≡ map pair_of t
pairs_write [] i r = refl
pairs_write (x ∷ xs) zero r = refl
pairs_write (x ∷ xs) (suc i) r = ap (λ (ps : List Pair). pair_of x ∷ ps) (pairs_write xs i r)

alike_write : (t : List PairRow) (n i r : ℕ) → i < n → Alike t (with t i r) n
alike_write t n i r l = record { pairs = pairs_write t i r; rest = drop-set-lt n t i _ l }

rank_this : (t : List PairRow) (i r : ℕ) → i < length t → (row (with t i r) i).rank ≡ r
rank_this t i r l = ap (λ (x : PairRow). x.rank) (get_or-set_same t i _ _ l)

rank_that : (t : List PairRow) (i r j : ℕ) → (j ≡ i → ⊥) → (row (with t i r) j).rank ≡ (row t j).rank
rank_that t i r j ne = ap (λ (x : PairRow). x.rank) (get_or-set_other t i j _ _ ne)

total_same : (f g : ℕ → ℕ) (n : ℕ) → ((j : ℕ) → j < n → g j ≡ f j) → total g n ≡ total f n
total_same f g zero h = refl
total_same f g (suc k) h =
    let ih : total g k ≡ total f k = total_same f g k (λ j l. h j (omega arith)) in
    let e : g k ≡ f k = h k (omega arith) in
    omega arith

total_change : (f g : ℕ → ℕ) (n i : ℕ) → i < n → ((j : ℕ) → (j ≡ i → ⊥) → g j ≡ f j) → total g n + f i ≡ total f n + g i
total_change f g zero i l h = absurd (omega arith)
total_change f g (suc k) i l h = elim (cases_eq i k) [
  | inl e ↦ (let s : total g k ≡ total f k = total_same f g k (λ j lj. h j (λ x. omega arith)) in
      let a : f i ≡ f k = ap f e in let b : g i ≡ g k = ap g e in omega arith)
  | inr ne ↦ (let ih : total g k + f i ≡ total f k + g i = total_change f g k i (omega arith) h in
      let e : g k ≡ f k = h k (λ x. ne (sym x)) in omega arith)
]

-- the sum of a function of the ranks
total_write : (f : ℕ → ℕ) (t : List PairRow) (n i r : ℕ) → i < n → n ≤ length t
    → total (λ j. f (row (with t i r) j).rank) n + f (row t i).rank ≡ total (λ j. f (row t j).rank) n + f r
total_write f t n i r l w =
    total_change (λ j. f (row t j).rank) (λ j. f (row (with t i r) j).rank) n i l (λ j ne. ap f (rank_that t i r j ne))
    ∙ ap (λ (x : ℕ). total (λ j. f (row t j).rank) n + f x) (rank_this t i r (omega arith))

heavy_some : (x : ℕ) → 0 < x → heavy x ≡ x
heavy_some x l = let e : eqb x 0 ≡ false = ne_eqb x 0 (λ z. omega arith) in rw e

heavy_none : (x : ℕ) → x ≡ 0 → heavy x ≡ 2 ^ 32
heavy_none x z = let e : eqb x 0 ≡ true = eq-eqb x 0 z in rw e

missing_some : (x : ℕ) → 0 < x → missing x ≡ 0
missing_some x l = let e : eqb x 0 ≡ false = ne_eqb x 0 (λ z. omega arith) in rw e

missing_none : (x : ℕ) → x ≡ 0 → missing x ≡ 1
missing_none x z = let e : eqb x 0 ≡ true = eq-eqb x 0 z in rw e

falls_by : (x r : ℕ) → Sooner r x → (r ≡ x → ⊥) → r < 2 ^ 32 → (0 < r) × (heavy r < heavy x)
falls_by x r (inl z) ne l =
    let p : 0 < r = (elim (cases_eq r 0) [ inl e ↦ absurd (ne (e ∙ sym z)) | inr n ↦ omega arith ]) in
    (p, omega (arith, heavy_none x z, heavy_some r p))
falls_by x r (inr s) ne l =
    let q : r < x = (elim (cases_eq r x) [ inl e ↦ absurd (ne e) | inr n ↦ omega arith ]) in
    (s.0, omega (arith, heavy_some x (omega arith), heavy_some r s.0))

none_beyond : (x k : ℕ) → 0 < x → x ≤ k → Beyond x k → ⊥
none_beyond x k a b (inl e) = omega arith
none_beyond x k a b (inr l) = omega arith

-- a rank that was sooner lowered lay beyond as many rounds
beyond_before : (x r k : ℕ) → Sooner r x → 0 < r → Beyond r k → Beyond x k
beyond_before x r k (inl e) p b = inl e
beyond_before x r k (inr s) p (inl e) = absurd (omega arith)
beyond_before x r k (inr s) p (inr l) = inr (omega (arith, s.1))

least_this : (o : Option ℕ) (r : ℕ) → AtLeast (Some (min r (unwrap_or o r))) r
least_this None r = omega arith
least_this (Some l) r = omega arith

least_that : (o : Option ℕ) (r x : ℕ) → AtLeast o x → AtLeast (Some (min r (unwrap_or o r))) x
least_that None r x h = absurd h
least_that (Some l) r x h = omega (arith, h)

some_none : {x : ℕ} → Some x ≡ None → ⊥
some_none e = subst (λ (o : Option ℕ). MatchOption o ⊥ (λ _. ◌≡◌ {A = ℕ} 0 0)) e refl

pub beyond_else : (x k : ℕ) → ((0 < x) × (k < x)) ⊎ (x ≤ 0) → Beyond x k
beyond_else x k (inl h) = inr h.1
beyond_else x k (inr z) = inl (omega arith)

-- a round that drops a row comes right after one that drops a partner, or is the first
abbrev Next : List PairRow → ℕ → ℕ → Type 0
Next t n r = (r ≡ 1) ⊎ ((j : ℕ) × ((j < n) × (r ≤ (row t j).rank + 1) × (0 < (row t j).rank)))

lasts_next : (x r : ℕ) → Lasts x r → 0 < x → r ≤ x + 1
lasts_next x r (inl e) p = absurd (omega arith)
lasts_next x r (inr h) p = h.1

gone_next : (t : List PairRow) (n : ℕ) (side : Side) (mine others : List Move) (r : ℕ) → HoldsAll t n side mine others r → GoneOne t n side mine others r → Next t n r
gone_next t n side mine others r h g = elim (h g.0 g.1.0) [
  | inl e ↦ inl e
  | inr w ↦ (let d = g.1.1 w.0 w.1.0 in inr (w.0, (w.1.0.1.1.0, lasts_next _ r w.1.1 d.0, d.0)))
]

tick_next : (new old : Module) (t : List PairRow) (n p q r : ℕ) → TickHolds new old t n p q r → TickGone new old t n p q r → Next t n r
tick_next new old t n p q r h g = elim h [
  | inl e ↦ inl e
  | inr f ↦ (let w = f g.0 g.1.0 in
      let d = g.1.1 w.0 w.1.0 w.1.1.0 w.1.1.1.0 w.1.1.1.1.0 w.1.1.1.1.1.0 in
      inr (w.1.1.1.0, (w.1.1.1.1.0, lasts_next _ r w.1.1.1.1.1.1 d.0, d.0)))
]

fails_next : (new old : Module) (t : List PairRow) (n p q r : ℕ) → Steady new old t n p q r → Fails new old t n p q r → Next t n r
fails_next new old t n p q r s f = elim f [
  | inl g ↦ gone_next t n New _ _ r s.forth g
  | inr x ↦ elim x [ inl g ↦ gone_next t n Old _ _ r s.back g | inr g ↦ tick_next new old t n p q r s.tick g ]
]

bound_this : (t : List PairRow) (n x r u v : ℕ) → ((j : ℕ) → j < n → (row t j).rank + u ≤ n) → x + u ≤ n → Sooner r x → 0 < r → Next t n r → v + missing x ≡ u → r + v ≤ n
bound_this t n x r u v b bx (inr s) p k e = omega arith
bound_this t n x r u v b bx (inl z) p (inl o) e = omega (arith, missing_none x z)
bound_this t n x r u v b bx (inl z) p (inr k) e = omega (arith, missing_none x z, b k.0 k.1.0, k.1.1)

module _ (new old : Module) (pairs : List Pair) (n : ℕ) where
  sound_write : (t : List PairRow) (i r : ℕ) → i < n → 0 < r → Fails new old t n (row t i).new (row t i).old r → Fair new old pairs t n
      → (j : ℕ) → j < n → 0 < (row (with t i r) j).rank → pair_of (row (with t i r) j) ∈ round new old pairs (row (with t i r) j).rank → ⊥
  sound_write t i r l p f k j lj pos kept =
      let w : n ≤ length t = k.within in
      let back : pair_of (row t j) ∈ round new old pairs (row (with t i r) j).rank =
      subst (λ (x : Pair). x ∈ round new old pairs (row (with t i r) j).rank) (pair_alike t (with t i r) n j (alike_write t n i r l)) kept in
      elim (cases_eq j i) [
        | inl e ↦ (let er : (row (with t i r) j).rank ≡ r = ap (λ (x : ℕ). (row (with t i r) x).rank) e ∙ rank_this t i r (omega arith) in
            fails_sound new old pairs t n k (row t i).new (row t i).old r p f
            (subst (λ (x : ℕ). pair_of (row t x) ∈ round new old pairs r) e (subst (λ (x : ℕ). pair_of (row t j) ∈ round new old pairs x) er back)))
        | inr ne ↦ (let er : (row (with t i r) j).rank ≡ (row t j).rank = rank_that t i r j ne in
            k.sound j lj (subst (λ (x : ℕ). 0 < x) er pos) (subst (λ (x : ℕ). pair_of (row t j) ∈ round new old pairs x) er back))
      ]

  fair_write : (t : List PairRow) (i r : ℕ) → i < n → ((row t i).rank ≡ r → ⊥) → r < 2 ^ 32
      → JudgedRow new old t n (row t i).new (row t i).old (row t i).rank r → Fair new old pairs t n
      → Fair new old pairs (with t i r) n × (weight (with t i r) n < weight t n)
  fair_write t i r l ne lr j k =
      let w : n ≤ length t = k.within in
      let d = falls_by (row t i).rank r j.sooner (λ e. ne (sym e)) lr in
      let p : 0 < r = d.0 in
      let f : Fails new old t n (row t i).new (row t i).old r = (elim j.why [ inl e ↦ absurd (ne (sym e)) | inr g ↦ g.1 ]) in
      let u : unranked (with t i r) n + missing (row t i).rank ≡ unranked t n = total_write missing t n i r l w ∙ (let z = missing_some r p in omega arith) in
      let this : r + unranked (with t i r) n ≤ n =
      bound_this t n (row t i).rank r (unranked t n) (unranked (with t i r) n) k.bounded (k.bounded i l) j.sooner p (fails_next new old t n _ _ r j.steady f) u in (
        record {
          within = omega (arith, w, long_alike t (with t i r) n (alike_write t n i r l));
          held = pairs_alike t (with t i r) n (alike_write t n i r l) ∙ k.held;
          sound = sound_write t i r l p f k;
          bounded = λ m lm. elim (cases_eq m i) [
            | inl e ↦ (let er : (row (with t i r) m).rank ≡ r = ap (λ (x : ℕ). (row (with t i r) x).rank) e ∙ rank_this t i r (omega arith) in omega arith)
            | inr nm ↦ (let er : (row (with t i r) m).rank ≡ (row t m).rank = rank_that t i r m nm in omega (arith, k.bounded m lm))
          ];
        },
        omega (arith, total_write heavy t n i r l w, d.1),
      )

  -- ── a sweep ──

  -- one row more
  from_here : (P : ℕ → Type 0) (i : ℕ) → 0 < i → ((j : ℕ) → i ≤ j → j < n → P j) → P (i - 1) → (j : ℕ) → i - 1 ≤ j → j < n → P j
  from_here P i l f p j a b = elim (cases_eq j (i - 1)) [ inl e ↦ subst P (sym e) p | inr ne ↦ f j (omega arith) b ]

  -- a row that has its rank for good is passed over
  pub swept_over : (t₀ t : List PairRow) (done i : ℕ) (least : Option ℕ) → 0 < i → 0 < (row t (i - 1)).rank → (row t (i - 1)).rank ≤ done
      → Swept new old pairs t₀ t n done i least → Swept new old pairs t₀ t n done (i - 1) least
  swept_over t₀ t done i least l a b s =
      record {
        fair = s.fair;
        alike = s.alike;
        lower = s.lower;
        falls = s.falls;
        given = s.given;
        kept = s.kept;
        next = λ k m d. from_here (λ j. Beyond (row t j).rank (suc k) → pair_of (row t j) ∈ round new old pairs (suc k)) i l (s.next k m d)
            (λ z. absurd (none_beyond (row t (i - 1)).rank (suc k) a (omega (arith, b, m)) z));
        same = λ f. from_here (λ j. Beyond (row t j).rank done → Steady new old t n (row t j).new (row t j).old (row t j).rank) i l (s.same f)
            (λ z. absurd (none_beyond (row t (i - 1)).rank done a b z));
      }

  pub swept_pass : (t₀ t : List PairRow) (done i r : ℕ) (least : Option ℕ) → 0 < i → i ≤ n → r ≡ (row t (i - 1)).rank
      → JudgedRow new old t n (row t (i - 1)).new (row t (i - 1)).old (row t (i - 1)).rank r
      → Swept new old pairs t₀ t n done i least → Swept new old pairs t₀ t n done (i - 1) least
  swept_pass t₀ t done i r least l le e j s =
      let here : Steady new old t n (row t (i - 1)).new (row t (i - 1)).old (row t (i - 1)).rank = subst (λ (x : ℕ). Steady new old t n (row t (i - 1)).new (row t (i - 1)).old x) e j.steady in
      record {
        fair = s.fair;
        alike = s.alike;
        lower = s.lower;
        falls = s.falls;
        given = s.given;
        kept = s.kept;
        next = λ k m d. from_here (λ j. Beyond (row t j).rank (suc k) → pair_of (row t j) ∈ round new old pairs (suc k)) i l (s.next k m d)
            (λ z. steady_next new old pairs t n s.fair k (row t (i - 1)).new (row t (i - 1)).old (row t (i - 1)).rank (s.kept k m d k (omega arith)) z
            (s.kept k m d k (omega arith) (i - 1) (omega arith) (beyond_down (row t (i - 1)).rank k (suc k) (omega arith) z)) here);
        same = λ f. from_here (λ j. Beyond (row t j).rank done → Steady new old t n (row t j).new (row t j).old (row t j).rank) i l (s.same f) (λ _. here);
      }

  -- a round keeps the same pairs, whatever rank is written
  carried : (t : List PairRow) (i r k j : ℕ) → i < n → pair_of (row t j) ∈ round new old pairs k → pair_of (row (with t i r) j) ∈ round new old pairs k
  carried t i r k j l h = subst (λ (x : Pair). x ∈ round new old pairs k) (sym (pair_alike t (with t i r) n j (alike_write t n i r l))) h

  kept_write : (t : List PairRow) (k i r : ℕ) → i < n → n ≤ length t → 0 < r → Sooner r (row t i).rank → DoneTo new old pairs t n k → DoneTo new old pairs (with t i r) n k
  kept_write t k i r l w p o d m lm j lj z = elim (cases_eq j i) [
    | inl e ↦ (let z' : Beyond r m = subst (λ (x : ℕ). Beyond x m) (ap (λ (x : ℕ). (row (with t i r) x).rank) e ∙ rank_this t i r (omega arith)) z in
        carried t i r m j l (subst (λ (x : ℕ). pair_of (row t x) ∈ round new old pairs m) (sym e) (d m lm i l (beyond_before (row t i).rank r m o p z'))))
    | inr ne ↦ carried t i r m j l (d m lm j lj (subst (λ (x : ℕ). Beyond x m) (rank_that t i r j ne) z))
  ]

  given_write : (t₀ t : List PairRow) (i r : ℕ) (least : Option ℕ) → i < n → n ≤ length t
      → ((j : ℕ) → j < n → ((row t j).rank ≡ (row t₀ j).rank) ⊎ AtLeast least (row t j).rank)
      → (j : ℕ) → j < n → ((row (with t i r) j).rank ≡ (row t₀ j).rank) ⊎ AtLeast (Some (min r (unwrap_or least r))) (row (with t i r) j).rank
  given_write t₀ t i r least l w g j lj = elim (cases_eq j i) [
    | inl e ↦ (let er : (row (with t i r) j).rank ≡ r = ap (λ (x : ℕ). (row (with t i r) x).rank) e ∙ rank_this t i r (omega arith) in
        inr (subst (λ (x : ℕ). AtLeast (Some (min r (unwrap_or least r))) x) (sym er) (least_this least r)))
    | inr ne ↦ (let er : (row (with t i r) j).rank ≡ (row t j).rank = rank_that t i r j ne in elim (g j lj) [
      | inl h ↦ inl (er ∙ h)
      | inr h ↦ inr (subst (λ (x : ℕ). AtLeast (Some (min r (unwrap_or least r))) x) (sym er) (least_that least r (row t j).rank h))
    ])
  ]

  pub swept_write : (t₀ t : List PairRow) (done i r : ℕ) (least : Option ℕ) → 0 < i → i ≤ n → (r ≡ (row t (i - 1)).rank → ⊥) → r < 2 ^ 32
      → JudgedRow new old t n (row t (i - 1)).new (row t (i - 1)).old (row t (i - 1)).rank r
      → Swept new old pairs t₀ t n done i least
      → Swept new old pairs t₀ (set t (i - 1) (record { new = (row t (i - 1)).new; old = (row t (i - 1)).old; rank = r })) n done (i - 1) (Some (min r (unwrap_or least r)))
  swept_write t₀ t done i r least l le ne lr j s =
      let w = fair_write t (i - 1) r (omega arith) (λ e. ne (sym e)) lr j s.fair in
      let p : 0 < r = (falls_by (row t (i - 1)).rank r j.sooner ne lr).0 in
      record {
        fair = w.0;
        alike = alike_on t₀ t _ n s.alike (alike_write t n (i - 1) r (omega arith));
        lower = omega (arith, w.1, s.lower);
        falls = λ _ _. omega (arith, w.1, s.lower);
        given = given_write t₀ t (i - 1) r least (omega arith) s.fair.within s.given;
        kept = λ k m d. kept_write t k (i - 1) r (omega arith) s.fair.within p j.sooner (s.kept k m d);
        next = λ k m d. from_here (λ j. Beyond (row (with t (i - 1) r) j).rank (suc k) → pair_of (row (with t (i - 1) r) j) ∈ round new old pairs (suc k)) i l
            (λ j a b z. carried t (i - 1) r (suc k) j (omega arith) (s.next k m d j a b (subst (λ (x : ℕ). Beyond x (suc k)) (rank_that t (i - 1) r j (λ x. omega arith)) z)))
            (λ z. let z' : Beyond r (suc k) = subst (λ (x : ℕ). Beyond x (suc k)) (rank_this t (i - 1) r (omega (arith, s.fair.within))) z in
            carried t (i - 1) r (suc k) (i - 1) (omega arith) (steady_next new old pairs t n s.fair k (row t (i - 1)).new (row t (i - 1)).old r (s.kept k m d k (omega arith)) z'
            (s.kept k m d k (omega arith) (i - 1) (omega arith) (beyond_before (row t (i - 1)).rank r k j.sooner p (beyond_down r k (suc k) (omega arith) z'))) j.steady));
        same = λ e. absurd (some_none e);
      }

  -- Where a sweep gave no rank up to k + 1, the rounds up to k + 1 were done with before it.
  before_more : (t₀ t : List PairRow) (done k l : ℕ) → done ≤ k → suc k < l → Swept new old pairs t₀ t n done 0 (Some l) → DoneTo new old pairs t₀ n k → DoneTo new old pairs t₀ n (suc k)
  before_more t₀ t done k l m b s d x lx j lj z = elim (cases_lt k x) [
    | inl a ↦ (let e : x ≡ suc k = omega arith in
        let z' : Beyond (row t₀ j).rank (suc k) = subst (λ (y : ℕ). Beyond (row t₀ j).rank y) e z in
        let after : Beyond (row t j).rank (suc k) = (elim (s.given j lj) [ inl h ↦ subst (λ (y : ℕ). Beyond y (suc k)) (sym h) z' | inr h ↦ (let low : l ≤ (row t j).rank = h in inr (omega arith)) ]) in
        subst (λ (y : ℕ). pair_of (row t₀ j) ∈ round new old pairs y) (sym e) (subst (λ (y : Pair). y ∈ round new old pairs (suc k)) (pair_alike t₀ t n j s.alike) (s.next k m d j (omega arith) lj after)))
    | inr a ↦ d x a j lj z
  ]

  before_to : (t₀ t : List PairRow) (done l : ℕ) → Swept new old pairs t₀ t n done 0 (Some l) → DoneTo new old pairs t₀ n done → (k : ℕ) → done + k < l → DoneTo new old pairs t₀ n (done + k)
  before_to t₀ t done l s d zero b = subst (λ (x : ℕ). DoneTo new old pairs t₀ n x) (let e : done ≡ done + zero = omega arith in e) d
  before_to t₀ t done l s d (suc k) b =
      subst (λ (x : ℕ). DoneTo new old pairs t₀ n x) (let e : suc (done + k) ≡ done + suc k = omega arith in e)
      (before_more t₀ t done (done + k) l (omega arith) (omega arith) s (before_to t₀ t done l s d k (omega arith)))

  -- after it the rounds up to the least rank that it gave are done with
  pub swept_done : (t₀ t : List PairRow) (done l : ℕ) → Swept new old pairs t₀ t n done 0 (Some l) → DoneTo new old pairs t₀ n done → DoneTo new old pairs t n l
  swept_done t₀ t done l s d m lm j lj z = elim (cases_lt done m) [
    | inl a ↦ (let k : ℕ = m - 1 in
        let e : m ≡ suc k = omega arith in
        let there : DoneTo new old pairs t₀ n k = subst (λ (x : ℕ). DoneTo new old pairs t₀ n x) (let f : done + (k - done) ≡ k = omega arith in f) (before_to t₀ t done l s d (k - done) (omega arith)) in
        subst (λ (x : ℕ). pair_of (row t j) ∈ round new old pairs x) (sym e) (s.next k (omega arith) there j (omega arith) lj (subst (λ (x : ℕ). Beyond (row t j).rank x) e z)))
    | inr a ↦ s.kept done (omega arith) d m a j lj z
  ]

  -- before the first row
  pub swept_start : (t : List PairRow) (done : ℕ) → Fair new old pairs t n → Swept new old pairs t t n done n None
  swept_start t done f = record {
    fair = f;
    alike = record { pairs = refl; rest = refl };
    lower = omega arith;
    falls = λ l e. absurd (some_none (sym e));
    given = λ j l. inl refl;
    kept = λ k m d. d;
    next = λ k m d j a b. absurd (omega arith);
    same = λ _ j a b. absurd (omega arith);
  }

  pub settled : (all : List Pair) (t₀ t : List PairRow) (done : ℕ) (least : Option ℕ) → pairs ≡ all → least ≡ None → DoneTo new old all t₀ n done → Swept new old pairs t₀ t n done 0 least
      → (i : ℕ) → i < n → (row t i).rank ≡ rank new old all (pair_of (row t i))
  settled all t₀ t done least h e d s i l =
      steady_ranked new old pairs t n s.fair done (s.kept done (omega arith) (subst (λ (ps : List Pair). DoneTo new old ps t₀ n done) (sym h) d)) (s.same e) i l
      ∙ ap (λ (ps : List Pair). rank new old ps (pair_of (row t i))) h

  -- round 0 is done with before the first sweep
  pub done_start : (t : List PairRow) → n ≤ length t → pairs_of n t ≡ pairs → DoneTo new old pairs t n 0
  done_start t w h m lm j lj z =
      let e : m ≡ 0 = omega arith in
      subst (λ (x : ℕ). pair_of (row t j) ∈ round new old pairs x) (sym e)
      (none_round new old pairs (pair_of (row t j)) (subst (λ (ps : List Pair). pair_of (row t j) ∈ ps) h (row_in n t j lj w)))

  -- what of clause 3 no rank can alter holds of a row that a sweep has passed
  pub hurries_on : (t₀ t : List PairRow) (done from i : ℕ) (least : Option ℕ) → DoneTo new old pairs t₀ n done → Swept new old pairs t₀ t n done from least → i < n → Beyond (row t i).rank done
      → 0 < done → Hurries new old (row t i).new (row t i).old
  hurries_on t₀ t done from i least d s l v p =
      kept_hurries new old pairs t n s.fair (row t i).new (row t i).old (s.kept done (omega arith) d 1 (omega arith) i l (beyond_down (row t i).rank 1 done (omega arith) v))

-- what the loop over the sweeps keeps
pub settle_step : (new old : Module) (pairs all : List Pair) (t₀ t u : List PairRow) (n m k done l : ℕ) (least : Option ℕ) → pairs ≡ all → m ≡ n → k ≡ m → least ≡ Some l
    → Alike t₀ t n → DoneTo new old all t m done → Swept new old pairs t u m done 0 least → Fair new old all u k × DoneTo new old all u k l × Alike t₀ u n
settle_step new old pairs all t₀ t u n m k done l least h en ek el a d s =
    let fair : Fair new old all u m = subst (λ (ps : List Pair). Fair new old ps u m) h s.fair in
    let swept : Swept new old pairs t u m done 0 (Some l) = subst (λ (o : Option ℕ). Swept new old pairs t u m done 0 o) el s in
    let more : DoneTo new old all u m l = subst (λ (ps : List Pair). DoneTo new old ps u m l) h (swept_done new old pairs m t u done l swept (subst (λ (ps : List Pair). DoneTo new old ps t m done) (sym h) d)) in (
      subst (λ (x : ℕ). Fair new old all u x) (sym ek) fair,
      subst (λ (x : ℕ). DoneTo new old all u x l) (sym ek) more,
      alike_on t₀ t u n a (subst (λ (x : ℕ). Alike t u x) en s.alike),
    )

-- no rank is given before the first sweep
missing_le : (b : Bool) → cond b 1 0 ≤ 1
missing_le true = omega arith
missing_le false = omega arith

unranked_le : (rows : List PairRow) (n : ℕ) → unranked rows n ≤ n
unranked_le rows zero = omega arith
unranked_le rows (suc k) = omega (arith, unranked_le rows k, missing_le (eqb (row rows k).rank 0))

pub fair_start : (new old : Module) (t : List PairRow) (n : ℕ) → n ≤ length t → Unranked t n → Fair new old (pairs_of n t) t n
fair_start new old t n w u =
    record {
      within = w;
      held = refl;
      sound = λ i l pos _. omega (arith, u i l);
      bounded = λ j l. omega (arith, u j l, unranked_le t n);
    }

-- what a struct of rows keeps, where a rank is written
pub fair_modest : (new old : Module) (pairs : List Pair) (t : List PairRow) (n : ℕ) → n ≤ most_rows → Fair new old pairs t n → Modest t n
fair_modest new old pairs t n few k j l = omega (arith, k.bounded j l)

pub indexed_write : (index : Index) (t : List PairRow) (n i r : ℕ) → i < n → Indexed index t n → Indexed index (with t i r) n
indexed_write index t n i r l k = indexed_alike index t (with t i r) n (alike_write t n i r l) k
