-- Ranks that each row holds to are those of the rounds, and the round that drops a row is found move by move. Assumes nothing.
use Rattle.std.proofs.Common.{◌≡◌, ℕ, zero, suc, ◌+◌, ◌^◌, ◌<◌, ◌≤◌, max, T, ◌⊎◌, List, [], ◌∷◌, length, get_or, take, sym, refl, ap, ◌∙◌, subst, inl, inr, arith}
use Rattle.std.proofs.lemmas.List.{take_more}
use Rattle.std.proofs.lemmas.Bool.{cases_eq, cases_lt}
use Rattle.action.specs.Lists.{◌∈◌}
use Rattle.action.proofs.Basics.{in_cases}
use Rattle.action.proofs.Relations.{within_has, has_within}
use Rattle.catalogue.specs.declared.Move.{Move}
use Rattle.catalogue.specs.Catalogue.{Module, state, move}
use Rattle.catalogue.specs.Systems.{running, Clauses}
use Rattle.pair_table.specs.declared.PairRow.{PairRow}
use Rattle.pair_table.specs.Pairs.{Pair, pair, among}
use Rattle.pair_table.specs.Rounds.{round, rank}
use Rattle.pair_table.specs.Laws.{row}
use Rattle.pair_table.proofs.Clause.{among_in, in_among}
use Rattle.pair_table.proofs.Rounds.{falls_to, round_none, round_more, round_kept, kept_clauses, clauses_kept}
use Rattle.pair_table.proofs.Ranks.{rank_kept, rank_dropped}
use Rattle.compare.specs.declared.ranking.Side.{Side}
use Rattle.compare.specs.declared.ranking.Side.TheVariants.{New, Old}
use Rattle.compare.specs.Rows.{Is, pair_of, pairs_of}
use Rattle.compare.specs.Indexed.{Apart}
use Rattle.compare.specs.Ranks.{PartnerBy, Partner, Modest, Lasts, Leaves, Sooner, Holds, Gone, GoneOne, TickHolds, TickGone, Steady, Fails, Judged, JudgedAll, JudgedTick, JudgedRow, Fair, Hurries, Beyond, KeptTo, DoneTo, SteadyFrom}
use Rattle.compare.proofs.Rows.{in_row, length_pairs}

-- ── the rounds bear the ranks out ──

beyond_lasts : (x r k : ℕ) → Lasts x r → Beyond r (suc k) → Beyond x k
beyond_lasts x r k (inl e) b = inl e
beyond_lasts x r k (inr h) (inl e) = absurd (omega arith)
beyond_lasts x r k (inr h) (inr l) = inr (omega arith)

not_one : (r k : ℕ) → Beyond r (suc k) → r ≡ 1 → ⊥
not_one r k (inl e) o = omega arith
not_one r k (inr l) o = omega arith

pub beyond_down : (r j k : ℕ) → j ≤ k → Beyond r k → Beyond r j
beyond_down r j k m (inl e) = inl e
beyond_down r j k m (inr l) = inr (omega arith)

beyond_less : (r k : ℕ) → Beyond r (suc k) → Beyond r k
beyond_less r k b = beyond_down r k (suc k) (omega arith) b

module _ (new old : Module) (pairs : List Pair) (rows : List PairRow) (n : ℕ) (fair : Fair new old pairs rows n) where
  abbrev In : ℕ → ℕ → ℕ → Type 0
  In k p q = pair p q ∈ round new old pairs k

  -- a pair of round k has a row, whose rank is not given or lies beyond k
  seen : (k p q : ℕ) → In k p q → (j : ℕ) × ((j < n) × (Is rows j p q × (0 < (row rows j).rank → (row rows j).rank ≤ k → ⊥)))
  seen k p q i =
      let there : pair p q ∈ pairs_of n rows = subst (λ (ps : List Pair). pair p q ∈ ps) (sym fair.held) (round_none new old pairs (pair p q) (falls_to new old pairs 0 k (pair p q) (omega arith) i)) in
      let s = in_row n rows p q there in
      let e : pair p q ≡ pair_of (row rows s.0) = ap (λ (x : ℕ). pair x q) (sym s.1.1.0) ∙ ap (λ (y : ℕ). pair (row rows s.0).new y) (sym s.1.1.1) in
      (s.0, (s.1.0, (s.1.1, λ a b. fair.sound s.0 s.1.0 a (falls_to new old pairs (row rows s.0).rank k (pair_of (row rows s.0)) b (subst (λ (x : Pair). x ∈ round new old pairs k) e i)))))

  -- what lost its partners before round k + 1 has no answer in round k
  gone_forth : (k p q : ℕ) → GoneOne rows n New (state new p).moves (state old q).moves (suc k) → Clauses (running new) (running old) (among (round new old pairs k)) p q → ⊥
  gone_forth k p q g c =
      let a : Move = g.0 in
      let s = c.forth a.action a.target g.1.0 in
      let w = seen k a.target s.0 (among_in (round new old pairs k) a.target s.0 s.2) in
      let d = g.1.1 w.0 (move a.action s.0, (s.1, (w.1.0, (refl, w.1.1.0)))) in
      w.1.1.1 d.0 (omega (arith, d.1))

  gone_back : (k p q : ℕ) → GoneOne rows n Old (state old q).moves (state new p).moves (suc k) → Clauses (running new) (running old) (among (round new old pairs k)) p q → ⊥
  gone_back k p q g c =
      let a : Move = g.0 in
      let s = c.back a.action a.target g.1.0 in
      let w = seen k s.0 a.target (among_in (round new old pairs k) s.0 a.target s.2) in
      let d = g.1.1 w.0 (move a.action s.0, (s.1, (w.1.0, (refl, w.1.1.0)))) in
      w.1.1.1 d.0 (omega (arith, d.1))

  gone_tick : (k p q : ℕ) → TickGone new old rows n p q (suc k) → Clauses (running new) (running old) (among (round new old pairs k)) p q → ⊥
  gone_tick k p q g c =
      let s = c.time g.0 g.1.0 in
      let w = seen k g.0 s.0 (among_in (round new old pairs k) g.0 s.0 s.2) in
      let d = g.1.1 (has_within (state old q).urgent (state new p).urgent (c.hurry g.0 g.1.0)) s.0 s.1 w.0 w.1.0 w.1.1.0 in
      w.1.1.1 d.0 (omega (arith, d.1))

  -- so a row that fails at round r is not kept by it
  pub fails_sound : (p q r : ℕ) → 0 < r → Fails new old rows n p q r → In r p q → ⊥
  fails_sound p q zero l f i = omega arith
  fails_sound p q (suc k) l f i =
      let c = kept_clauses new old (round new old pairs k) p q (round_kept new old pairs k p q i) in
      elim f [ inl g ↦ gone_forth k p q g c | inr x ↦ elim x [ inl g ↦ gone_back k p q g c | inr g ↦ gone_tick k p q g c ] ]

  abbrev Kept : ℕ → Type 0
  Kept k = KeptTo new old pairs rows n k

  -- a partner that lasts beyond round k is in it
  lasts_in : (k r j p q : ℕ) → Kept k → Beyond r (suc k) → j < n → Is rows j p q → Lasts (row rows j).rank r → T (among (round new old pairs k) p q)
  lasts_in k r j p q ih b l e t =
      in_among (round new old pairs k) p q
      (subst (λ (x : ℕ). pair x q ∈ round new old pairs k) e.0 (subst (λ (y : ℕ). pair (row rows j).new y ∈ round new old pairs k) e.1 (ih j l (beyond_lasts (row rows j).rank r k t b))))

  steady_clauses : (k p q r : ℕ) → Kept k → Beyond r (suc k) → Steady new old rows n p q r → Clauses (running new) (running old) (among (round new old pairs k)) p q
  steady_clauses k p q r ih b s = record {
    forth = λ a d m. elim (s.forth (move a d) m) [
      | inl one ↦ absurd (not_one r k b one)
      | inr w ↦ (let t = w.1.0 in
          (t.0.target, subst (λ x. move x t.0.target ∈ (state old q).moves) (sym t.1.1.1.0) t.1.0, lasts_in k r w.0 d t.0.target ih b t.1.1.0 t.1.1.1.1 w.1.1))
    ];
    back = λ a e m. elim (s.back (move a e) m) [
      | inl one ↦ absurd (not_one r k b one)
      | inr w ↦ (let t = w.1.0 in
          (t.0.target, subst (λ x. move x t.0.target ∈ (state new p).moves) (sym t.1.1.1.0) t.1.0, lasts_in k r w.0 t.0.target e ih b t.1.1.0 t.1.1.1.1 w.1.1))
    ];
    hurry = λ p' e a u. elim s.tick [
      | inl one ↦ absurd (not_one r k b one)
      | inr f ↦ within_has (state old q).urgent (state new p).urgent (f p' e).0 a u
    ];
    time = λ p' e. elim s.tick [
      | inl one ↦ absurd (not_one r k b one)
      | inr f ↦ (let w = (f p' e).1 in (w.0, w.1.0, lasts_in k r w.1.1.0 p' w.0 ih b w.1.1.1.0 w.1.1.1.1.0 w.1.1.1.1.1))
    ];
  }

  -- so the next round keeps a steady pair, where its rank lies beyond it
  pub steady_next : (k p q r : ℕ) → Kept k → Beyond r (suc k) → In k p q → Steady new old rows n p q r → In (suc k) p q
  steady_next k p q r b t i s =
      round_more new old pairs k p q i (clauses_kept new old (round new old pairs k) p q (steady_clauses k p q r b t s))

  -- what of clause 3 no rank can alter holds of the rows that round 1 keeps
  pub kept_hurries : (p q : ℕ) → In 1 p q → Hurries new old p q
  kept_hurries p q i p' e = has_within (state old q).urgent (state new p).urgent ((kept_clauses new old (round new old pairs 0) p q (round_kept new old pairs 0 p q i)).hurry p' e)

  -- Where the rows that the first rounds leave are steady, a round keeps each row whose rank is not given or lies beyond it.
  steady_keeps : (done : ℕ) → DoneTo new old pairs rows n done → SteadyFrom new old rows n done 0 → (k : ℕ) → Kept k
  steady_keeps done d s zero = d 0 (omega arith)
  steady_keeps done d s (suc k) = elim (cases_lt k done) [
    | inl l ↦ d (suc k) (omega arith)
    | inr g ↦ (λ i l b. steady_next k (row rows i).new (row rows i).old (row rows i).rank (steady_keeps done d s k) b
        (steady_keeps done d s k i l (beyond_less (row rows i).rank k b)) (s i (omega arith) l (beyond_down (row rows i).rank done (suc k) (omega arith) b)))
  ]

  -- so its rank is that of the rounds
  pub steady_ranked : (done : ℕ) → DoneTo new old pairs rows n done → SteadyFrom new old rows n done 0
      → (i : ℕ) → i < n → (row rows i).rank ≡ rank new old pairs (pair_of (row rows i))
  steady_ranked done d s i l = elim (cases_eq (row rows i).rank 0) [
    | inl e ↦ e ∙ sym (rank_kept new old pairs (row rows i).new (row rows i).old (λ k. steady_keeps done d s k i l (inl e)))
    | inr ne ↦ sym (rank_dropped new old pairs (row rows i).new (row rows i).old (row rows i).rank (omega arith)
        (omega (arith, fair.bounded i l, ap length fair.held, length_pairs n rows fair.within))
        (λ k h. steady_keeps done d s k i l (inr h)) (fair.sound i l (omega arith)))
  ]

-- ── the loop over the others ──

-- one more of a list
in_more : (xs : List Move) (m : ℕ) (d x : Move) → m < length xs → x ∈ take (m + 1) xs → (x ∈ take m xs) ⊎ (x ≡ get_or xs m d)
in_more xs m d x l i = go (in_cases (take m xs) (get_or xs m d ∷ []) x (subst (λ (ys : List Move). x ∈ ys) (take_more xs m d l) i))
  where
    go : (x ∈ take m xs) ⊎ (x ∈ (get_or xs m d ∷ [])) → (x ∈ take m xs) ⊎ (x ≡ get_or xs m d)
    go (inl k) = inl k
    go (inr (inl e)) = inr e
    go (inr (inr k)) = absurd k

pub get_d_in : (xs : List Move) (m : ℕ) (d : Move) → m < length xs → get_or xs m d ∈ xs
get_d_in [] m d l = absurd (omega arith)
get_d_in (x ∷ xs) zero d l = inl refl
get_d_in (x ∷ xs) (suc m) d l = inr (get_d_in xs m d (omega arith))

sooner_same : (r : ℕ) → Sooner r r
sooner_same r = elim (cases_eq r 0) [ inl e ↦ inl e | inr ne ↦ inr (omega arith, omega arith) ]

-- what the first m others say of a move
pub record Sofar (rows : List PairRow) (n : ℕ) (side : Side) (a : Move) (others : List Move) (m last limit : ℕ) : Type 0 where
  pub gone : Gone rows n side a (take m others) (last + 1)
  pub top : (last ≡ 0) ⊎ ((j : ℕ) × (Partner rows n side a others j × ((row rows j).rank ≡ last)))
  pub free : (last ≡ 0) ⊎ ((limit ≡ 0) ⊎ (last + 1 < limit))
  pub low : last + 1 < 2 ^ 32

module _ (rows : List PairRow) (n : ℕ) (side : Side) (a : Move) (others : List Move) where
  -- the partner at place i, with its rank
  abbrev pub Found : Move → ℕ → Type 0
  Found b x = (j : ℕ) × (PartnerBy rows n side a b j × ((row rows j).rank ≡ x))

  pub judged_held : (i limit x : ℕ) (d : Move) → i < length others → Found (get_or others i d) x → Lasts x limit → Judged rows n side a others limit limit
  judged_held i limit x d l h t =
      record {
        holds = inr (h.0, ((get_or others i d, (get_d_in others i d l, h.1.0)), subst (λ (y : ℕ). Lasts y limit) (sym h.1.1) t));
        why = inl refl;
        sooner = sooner_same limit;
      }

  gone_more : (m r s : ℕ) (d : Move) → m < length others → r ≤ s → Gone rows n side a (take m others) r
      → ((j : ℕ) → PartnerBy rows n side a (get_or others m d) j → (0 < (row rows j).rank) × ((row rows j).rank < s))
      → Gone rows n side a (take (m + 1) others) s
  gone_more m r s d l le g here j h = elim (in_more others m d h.0 l h.1.0) [
    | inl i ↦ (let w = g j (h.0, (i, h.1.1)) in (w.0, omega (arith, w.1)))
    | inr e ↦ here j (subst (λ (b : Move). PartnerBy rows n side a b j) e h.1.1)
  ]

  pub sofar_none : (m last limit : ℕ) (d : Move) → m < length others → ((j : ℕ) → PartnerBy rows n side a (get_or others m d) j → ⊥)
      → Sofar rows n side a others m last limit → Sofar rows n side a others (m + 1) last limit
  sofar_none m last limit d l none s =
      record { gone = gone_more m (last + 1) (last + 1) d l (omega arith) s.gone (λ j h. absurd (none j h)); top = s.top; free = s.free; low = s.low }

  pub sofar_some : (m last limit x : ℕ) (d : Move) → Apart rows n → Modest rows n → m < length others → Found (get_or others m d) x → Leaves x limit
      → Sofar rows n side a others m last limit → Sofar rows n side a others (m + 1) (max x last) limit
  sofar_some m last limit x d k small l h t s =
      let j : ℕ = h.0 in
      let e : (row rows j).rank ≡ x = h.1.1 in
      let low : (row rows j).rank + 1 < 2 ^ 32 = small j h.1.0.0 in
      let here : (i : ℕ) → PartnerBy rows n side a (get_or others m d) i → (0 < (row rows i).rank) × ((row rows i).rank < max x last + 1) =
      λ i p. (let o : i ≡ j = k i j p.0 h.1.0.0 (p.1.1.0 ∙ sym h.1.0.1.1.0) (p.1.1.1 ∙ sym h.1.0.1.1.1) in
      let f : (row rows i).rank ≡ x = ap (λ (y : ℕ). (row rows y).rank) o ∙ e in
      (omega (arith, t.0), omega arith)) in
      let gone : Gone rows n side a (take (m + 1) others) (max x last + 1) = gone_more m (last + 1) (max x last + 1) d l (omega arith) s.gone here in
      elim (cases_lt last x) [
        | inl le ↦ (let w : max x last ≡ x = omega arith in
            record {
              gone = gone;
              top = inr (j, ((get_or others m d, (get_d_in others m d l, h.1.0)), e ∙ sym w));
              free = elim t.1 [ inl z ↦ inr (inl z) | inr z ↦ inr (inr (omega arith)) ];
              low = omega arith;
            })
        | inr le ↦ (let w : max x last ≡ last = omega arith in
            record {
              gone = gone;
              top = subst (λ (y : ℕ). (y ≡ 0) ⊎ ((j : ℕ) × (Partner rows n side a others j × ((row rows j).rank ≡ y)))) (sym w) s.top;
              free = subst (λ (y : ℕ). (y ≡ 0) ⊎ ((limit ≡ 0) ⊎ (y + 1 < limit))) (sym w) s.free;
              low = omega (arith, s.low);
            })
      ]

-- ── the loop over the moves ──

lasts_lower : (x l r : ℕ) → Lasts x l → Sooner r l → Lasts x r
lasts_lower x l r (inl e) s = inl e
lasts_lower x l r (inr h) (inl e) = absurd (omega arith)
lasts_lower x l r (inr h) (inr s) = inr (s.0, omega arith)

one_lower : (l r : ℕ) → l ≡ 1 → Sooner r l → r ≡ 1
one_lower l r e (inl z) = absurd (omega arith)
one_lower l r e (inr s) = omega arith

holds_lower : (rows : List PairRow) (n : ℕ) (side : Side) (a : Move) (others : List Move) (l r : ℕ) → Holds rows n side a others l → Sooner r l → Holds rows n side a others r
holds_lower rows n side a others l r (inl e) s = inl (one_lower l r e s)
holds_lower rows n side a others l r (inr h) s = inr (h.0, (h.1.0, lasts_lower _ l r h.1.1 s))

sooner_on : (r l m : ℕ) → Sooner r l → Sooner l m → Sooner r m
sooner_on r l m s (inl e) = inl e
sooner_on r l m (inl e) (inr h) = absurd (omega arith)
sooner_on r l m (inr s) (inr h) = inr (s.0, omega arith)

module _ (rows : List PairRow) (n : ℕ) (side : Side) (mine others : List Move) where
  pub judged_more : (i limit first r : ℕ) (d : Move) → i < length mine → Judged rows n side (get_or mine i d) others first r
      → JudgedAll rows n side (take i mine) mine others limit first → JudgedAll rows n side (take (i + 1) mine) mine others limit r
  judged_more i limit first r d l j s =
      record {
        holds = λ a h. elim (in_more mine i d a l h) [
          | inl k ↦ holds_lower rows n side a others first r (s.holds a k) j.sooner
          | inr e ↦ subst (λ (b : Move). Holds rows n side b others r) (sym e) j.holds
        ];
        why = elim j.why [
          | inl e ↦ subst (λ (y : ℕ). (y ≡ limit) ⊎ ((0 < y) × GoneOne rows n side mine others y)) (sym e) s.why
          | inr g ↦ inr (g.0, (get_or mine i d, (get_d_in mine i d l, g.1)))
        ];
        sooner = sooner_on r first limit j.sooner s.sooner;
      }

-- Of two lone moves the one has a partner where the other has.
lone : (mine : List Move) → length mine ≡ 1 → (a b : Move) → a ∈ mine → b ∈ mine → a ≡ b
lone [] l a b i j = absurd i
lone (x ∷ []) l a b (inl e) (inl f) = e ∙ sym f
lone (x ∷ []) l a b (inl e) (inr j) = absurd j
lone (x ∷ []) l a b (inr i) j = absurd i
lone (x ∷ y ∷ zs) l a b i j = absurd (omega arith)

pub judged_lone : (rows : List PairRow) (n : ℕ) (news olds : List Move) (limit r : ℕ) → length news ≡ 1 → length olds ≡ 1
    → JudgedAll rows n New news news olds limit r → JudgedAll rows n Old olds olds news r r
judged_lone rows n (a ∷ []) olds limit r ln lo s =
    record {
      holds = λ b i. elim (s.holds a (inl refl)) [
        | inl e ↦ inl e
        | inr h ↦ (let w = h.1.0 in
            let e : w.0 ≡ b = lone olds lo w.0 b w.1.0 i in
            inr (h.0, ((a, (inl refl, subst (λ (x : Move). PartnerBy rows n Old x a h.0) e (w.1.1.0, (sym w.1.1.1.0, w.1.1.1.1)))), h.1.1)))
      ];
      why = inl refl;
      sooner = sooner_same r;
    }
judged_lone rows n [] olds limit r ln lo s = absurd (omega arith)
judged_lone rows n (a ∷ b ∷ cs) olds limit r ln lo s = absurd (omega arith)

-- ── a row ──

module _ (new old : Module) (rows : List PairRow) (n p q : ℕ) where
  tick_lower : (l r : ℕ) → TickHolds new old rows n p q l → Sooner r l → TickHolds new old rows n p q r
  tick_lower l r (inl e) s = inl (one_lower l r e s)
  tick_lower l r (inr f) s = inr (λ p' e. let w = f p' e in
      (w.0, (w.1.0, (w.1.1.0, (w.1.1.1.0, (w.1.1.1.1.0, (w.1.1.1.1.1.0, lasts_lower _ l r w.1.1.1.1.1.1 s)))))))

  row_why : (limit tick forth r : ℕ)
      → (tick ≡ limit) ⊎ ((0 < tick) × TickGone new old rows n p q tick)
      → (forth ≡ tick) ⊎ ((0 < forth) × GoneOne rows n New (state new p).moves (state old q).moves forth)
      → (r ≡ forth) ⊎ ((0 < r) × GoneOne rows n Old (state old q).moves (state new p).moves r)
      → (r ≡ limit) ⊎ ((0 < r) × Fails new old rows n p q r)
  row_why limit tick forth r a b (inr g) = inr (g.0, inr (inl g.1))
  row_why limit tick forth r a (inr g) (inl e) = subst (λ (y : ℕ). (y ≡ limit) ⊎ ((0 < y) × Fails new old rows n p q y)) (sym e) (inr (g.0, inl g.1))
  row_why limit tick forth r (inr g) (inl d) (inl e) = subst (λ (y : ℕ). (y ≡ limit) ⊎ ((0 < y) × Fails new old rows n p q y)) (sym (e ∙ d)) (inr (g.0, inr (inr g.1)))
  row_why limit tick forth r (inl c) (inl d) (inl e) = inl (e ∙ d ∙ c)

  pub judged_row : (limit tick forth r : ℕ) (news olds : List Move) → news ≡ (state new p).moves → olds ≡ (state old q).moves
      → JudgedTick new old rows n p q limit tick
      → JudgedAll rows n New news news olds tick forth
      → JudgedAll rows n Old olds olds news forth r
      → JudgedRow new old rows n p q limit r
  judged_row limit tick forth r news olds en eo a b' c' =
      let b : JudgedAll rows n New (state new p).moves (state new p).moves (state old q).moves tick forth =
      subst (λ (x : List Move). JudgedAll rows n New x x (state old q).moves tick forth) en (subst (λ (y : List Move). JudgedAll rows n New news news y tick forth) eo b') in
      let c : JudgedAll rows n Old (state old q).moves (state old q).moves (state new p).moves forth r =
      subst (λ (x : List Move). JudgedAll rows n Old (state old q).moves (state old q).moves x forth r) en (subst (λ (y : List Move). JudgedAll rows n Old y y news forth r) eo c') in
      record {
        steady = record {
          forth = λ x i. holds_lower rows n New x (state old q).moves forth r (b.holds x i) c.sooner;
          back = c.holds;
          tick = tick_lower tick r a.holds (sooner_on r forth tick c.sooner b.sooner);
        };
        why = row_why limit tick forth r a.why b.why c.why;
        sooner = sooner_on r tick limit (sooner_on r forth tick c.sooner b.sooner) a.sooner;
      }
