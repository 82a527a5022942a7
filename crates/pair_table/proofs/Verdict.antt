-- Where the table suffices, its rows judge the modules. Assumes nothing.
use Rattle.std.proofs.Common.{◌≡◌, ℕ, zero, suc, ◌<◌, ◌≤◌, Bool, ◌&&◌, ◌||◌, T, eqb, ◌⊎◌, List, [], ◌∷◌, map, length, get_or, take, sym, refl, ap, ◌∙◌, subst, inl, inr, arith, eqb→eq}
use Rattle.std.proofs.lemmas.List.{length-map, get_or-map, get_or-take, length-take-le}
use Rattle.action.specs.Lists.{◌∈◌}
use Rattle.action.proofs.Basics.{and_l, and_r, and_i, or_cases, or_l, or_r, eq-eqb}
use Rattle.catalogue.specs.Catalogue.{Module, Sound, codes, move}
use Rattle.catalogue.specs.Systems.{running, FasterThan, Tied}
use Rattle.pair_table.specs.declared.PairRow.{PairRow}
use Rattle.pair_table.specs.Pairs.{Pair, pair, among, rows, pair_count, most_rows}
use Rattle.pair_table.specs.Rounds.{round, rank, first_rank}
use Rattle.pair_table.specs.Tables.{row_of, verdict}
use Rattle.pair_table.specs.Laws.{Reached, at_start, by_move, by_tick, listed, lasting, row, Judges, Overflows}
use Rattle.pair_table.proofs.Clause.{among_in, in_among}
use Rattle.pair_table.proofs.Adding.{nil_pair, Once, in_get_d, get_d_in}
use Rattle.pair_table.proofs.Explored.{start_there, rows_once, rows_reached, rows_closed, reached_rows}
use Rattle.pair_table.proofs.Rounds.{clauses_map, settles, falls_to, round_none, last_stays, stable_clauses, survives}
use Rattle.pair_table.proofs.Ranks.{rank_kept, kept_last}

-- the rows that hold pairs, each with a rank
module _ (f : Pair → ℕ) where
  pub listed_is : (ps : List Pair) (p q : ℕ) → listed (map (row_of f) ps) p q ≡ among ps p q
  listed_is [] p q = refl
  listed_is (x ∷ xs) p q = ap (λ b. (eqb p x.new && eqb q x.old) || b) (listed_is xs p q)

  lasting_in : (ps : List Pair) (p q : ℕ) → T (lasting (map (row_of f) ps) p q) → (pair p q ∈ ps) × (f (pair p q) ≡ 0)
  lasting_in [] p q h = absurd h
  lasting_in (x ∷ xs) p q h = go (or_cases ((eqb p x.new && eqb q x.old) && eqb (f x) 0) (lasting (map (row_of f) xs) p q) h) (lasting_in xs p q)
    where
      here : T ((eqb p x.new && eqb q x.old) && eqb (f x) 0) → (pair p q ∈ (x ∷ xs)) × (f (pair p q) ≡ 0)
      here t =
          let both = and_l (eqb p x.new && eqb q x.old) (eqb (f x) 0) t in
          let en = eqb→eq p x.new (and_l (eqb p x.new) (eqb q x.old) both) in
          let eo = eqb→eq q x.old (and_r (eqb p x.new) (eqb q x.old) both) in
          let e : pair p q ≡ x = ap (λ y. pair y q) en ∙ ap (λ y. pair x.new y) eo in
          (inl e, ap f e ∙ eqb→eq (f x) 0 (and_r (eqb p x.new && eqb q x.old) (eqb (f x) 0) t))

      go : T ((eqb p x.new && eqb q x.old) && eqb (f x) 0) ⊎ T (lasting (map (row_of f) xs) p q) → (T (lasting (map (row_of f) xs) p q) → (pair p q ∈ xs) × (f (pair p q) ≡ 0)) → (pair p q ∈ (x ∷ xs)) × (f (pair p q) ≡ 0)
      go (inl t) rec = here t
      go (inr t) rec = let s = rec t in (inr s.0, s.1)

  in_lasting : (ps : List Pair) (p q : ℕ) → pair p q ∈ ps → f (pair p q) ≡ 0 → T (lasting (map (row_of f) ps) p q)
  in_lasting [] p q i e = absurd i
  in_lasting (x ∷ xs) p q (inl h) e =
      let en : p ≡ x.new = ap (λ (y : Pair). y.new) h in
      let eo : q ≡ x.old = ap (λ (y : Pair). y.old) h in
      or_l ((eqb p x.new && eqb q x.old) && eqb (f x) 0) (lasting (map (row_of f) xs) p q)
      (and_i (eqb p x.new && eqb q x.old) (eqb (f x) 0) (and_i (eqb p x.new) (eqb q x.old) (eq-eqb p x.new en) (eq-eqb q x.old eo)) (eq-eqb (f x) 0 (ap f (sym h) ∙ e)))
  in_lasting (x ∷ xs) p q (inr i) e = or_r ((eqb p x.new && eqb q x.old) && eqb (f x) 0) (lasting (map (row_of f) xs) p q) (in_lasting xs p q i e)

  row_at : (ps : List Pair) (i : ℕ) → i < length (map (row_of f) ps) → row (map (row_of f) ps) i ≡ row_of f (get_or ps i nil_pair)
  row_at ps i l = get_or-map (row_of f) ps i nil_pair _ (omega (arith, length-map ps (row_of f)))

  laid_once : (ps : List Pair) → Once ps → (i j : ℕ) → i < length (map (row_of f) ps) → j < length (map (row_of f) ps)
      → (row (map (row_of f) ps) i).new ≡ (row (map (row_of f) ps) j).new → (row (map (row_of f) ps) i).old ≡ (row (map (row_of f) ps) j).old → i ≡ j
  laid_once ps h i j li lj en eo =
      let long = length-map ps (row_of f) in
      let a = row_at ps i li in
      let b = row_at ps j lj in
      let new : (get_or ps i nil_pair).new ≡ (get_or ps j nil_pair).new = sym (ap (λ (r : PairRow). r.new) a) ∙ en ∙ ap (λ (r : PairRow). r.new) b in
      let old : (get_or ps i nil_pair).old ≡ (get_or ps j nil_pair).old = sym (ap (λ (r : PairRow). r.old) a) ∙ eo ∙ ap (λ (r : PairRow). r.old) b in
      h i j (omega arith) (omega arith) (ap (λ x. pair x (get_or ps i nil_pair).old) new ∙ ap (λ y. pair (get_or ps j nil_pair).new y) old)

-- the first n rows of more
in_take : (n : ℕ) (xs : List Pair) (x : Pair) → x ∈ take n xs → x ∈ xs
in_take zero xs x i = absurd i
in_take (suc n) [] x i = absurd i
in_take (suc n) (y ∷ ys) x (inl e) = inl e
in_take (suc n) (y ∷ ys) x (inr i) = inr (in_take n ys x i)

once_take : (n : ℕ) (xs : List Pair) → n ≤ length xs → Once xs → Once (take n xs)
once_take n xs l h i j li lj e =
    let long = length-take-le n xs l in
    let a : i < n = omega arith in
    let b : j < n = omega arith in
    h i j (omega arith) (omega arith) (sym (get_or-take n xs i nil_pair a) ∙ e ∙ get_or-take n xs j nil_pair b)

pub overflows : (new old : Module) (f : Pair → ℕ) (n : ℕ) → n < length (rows new old) → Overflows new old (map (row_of f) (take n (rows new old)))
overflows new old f n l = record {
  reached = λ p q h. rows_reached new old p q (in_take n (rows new old) (pair p q) (among_in some p q (subst T (listed_is f some p q) h)));
  once = laid_once f some (once_take n (rows new old) (omega arith) (rows_once new old));
  more = λ h. behind h;
}
  where
    some : List Pair
    some = take n (rows new old)

    next : Pair
    next = get_or (rows new old) n nil_pair

    behind : ((p q : ℕ) → Reached new old p q → T (listed (map (row_of f) (take n (rows new old))) p q)) → ⊥
    behind h =
        let there : next ∈ rows new old = get_d_in (rows new old) n l in
        let told : next ∈ some = among_in some next.new next.old (subst T (listed_is f some next.new next.old) (h next.new next.old (rows_reached new old next.new next.old there))) in
        let s = in_get_d some next told in
        let long : length some ≡ n = length-take-le n (rows new old) (omega arith) in
        let below : s.0 < n = omega (arith, s.1) in
        let e : s.0 ≡ n = rows_once new old s.0 n (omega arith) l (sym (get_or-take n (rows new old) s.0 nil_pair below) ∙ s.2) in
        omega arith

pub reached_codes : (new old : Module) → Sound new → Sound old → (p q : ℕ) → Reached new old p q → (p < codes new) × (q < codes old)
reached_codes new old sn so p q at_start = (sn.starts, so.starts)
reached_codes new old sn so p q (by_move a x y p' q' r m n) = (sn.leads x (move a p) m, so.leads y (move a q) n)
reached_codes new old sn so p q (by_tick x y p' q' r m n) = (sn.passes x p m, so.passes y q n)

module _ (new old : Module) (sn : Sound new) (so : Sound old) (few : pair_count new old ≤ most_rows) where
  abbrev ps : List Pair
  ps = rows new old

  abbrev rk : Pair → ℕ
  rk = rank new old (rows new old)

  abbrev table : List PairRow
  table = map (row_of (rank new old (rows new old))) (rows new old)

  abbrev last : List Pair
  last = round new old (rows new old) (length (rows new old))

  -- the rows of rank 0 are those of the last round
  lasting_last : (p q : ℕ) → T (lasting table p q) → pair p q ∈ last
  lasting_last p q h = let s = lasting_in rk ps p q h in kept_last new old ps p q s.0 s.1

  in_rows : (p q : ℕ) → pair p q ∈ last → pair p q ∈ ps
  in_rows p q i = round_none new old ps (pair p q) (falls_to new old ps 0 (length ps) (pair p q) (omega arith) i)

  all_rounds : (R : ℕ → ℕ → Bool) → FasterThan (running new) (running old) R → (p q : ℕ) → T (R p q) → pair p q ∈ ps → rk (pair p q) ≡ 0
  all_rounds R f p q t i = rank_kept new old ps p q (λ k. survives new old ps (rows_closed new old few) R f k p q i t)

  within : (p q : ℕ) → T (lasting table p q) → (p < codes new) × (q < codes old)
  within p q h = reached_codes new old sn so p q (rows_reached new old p q (lasting_in rk ps p q h).0)

  last_lasting : (p q : ℕ) → pair p q ∈ last → T (lasting table p q)
  last_lasting p q i = in_lasting rk ps p q (in_rows p q i) (rank_kept new old ps p q (last_stays new old ps (pair p q) i))

  faster : FasterThan (running new) (running old) (lasting table)
  faster = record {
    left = λ p q h. (within p q h).0;
    right = λ p q h. (within p q h).1;
    keeps = λ p q h.
        clauses_map (running new) (running old) (among last) (lasting table) (λ x y t. last_lasting x y (among_in last x y t)) p q
        (stable_clauses new old last (settles new old (length ps) ps (omega arith)) p q (lasting_last p q h));
  }

  rank_tied : first_rank new old ≡ 0 → Tied (running new) (running old)
  unfolding first_rank
  rank_tied e = (lasting table, record { faster = faster; starts = in_lasting rk ps new.start old.start (start_there new old) e })

  tied_rank : Tied (running new) (running old) → first_rank new old ≡ 0
  unfolding first_rank
  tied_rank t = all_rounds t.0 t.1.faster new.start old.start t.1.starts (start_there new old)

  pub judges : Judges new old (verdict new old) table
  unfolding pair_count
  judges = record {
    tied = (rank_tied, tied_rank);
    count = length-map ps (row_of rk);
    reached = λ p q. (
      λ h. rows_reached new old p q (among_in ps p q (subst T (listed_is rk ps p q) h)),
      λ r. subst T (sym (listed_is rk ps p q)) (in_among ps p q (reached_rows new old few p q r)),
    );
    once = laid_once rk ps (rows_once new old);
    faster = faster;
    largest = λ R f p q t h. (let i = among_in ps p q (subst T (listed_is rk ps p q) h) in in_lasting rk ps p q i (all_rounds R f p q t i));
  }
