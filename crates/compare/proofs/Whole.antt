-- From the explored and ranked rows to the answer and the table at exit. Assumes nothing.
use Rattle.std.proofs.Common.{◌≡◌, ℕ, zero, suc, ◌<◌, ◌≤◌, Bool, true, false, ltb, List, [], ◌∷◌, map, length, get_or, take, drop, Some, None, Option, ok_or, Ok, Err, Result, sym, refl, ap, ◌∙◌, subst, arith, MatchResult}
use Rattle.std.specs.Option.{option_map}
use Rattle.std.proofs.lemmas.List.{take_at, length-map, length-take-le}
use Rattle.std.proofs.lemmas.Bool.{lt-ltb, le-ltb, le-leb, lt-leb}
use Rattle.action.specs.Lists.{nth}
use Rattle.catalogue.specs.Catalogue.{Catalogue, Module, Lawful, start_of, module_in}
use Rattle.pair_table.specs.declared.PairRow.{PairRow}
use Rattle.pair_table.specs.declared.Compared.{Compared}
use Rattle.pair_table.specs.declared.CompareFault.{CompareFault}
use Rattle.pair_table.specs.declared.CompareFault.TheVariants.{UnknownOld, UnknownNew, TableTooSmall}
use Rattle.pair_table.specs.Pairs.{Pair, pair, starts, explored, rows, pair_count, added, most_rows}
use Rattle.pair_table.specs.Rounds.{rank, first_rank}
use Rattle.pair_table.specs.Tables.{room, suffices, verdict, answer, table_after, row_of, filled, cut_short}
use Rattle.pair_table.specs.Laws.{row, Judges, Refuses, Overflows, Ordered}
use Rattle.pair_table.specs.Cases.{Worked}
use Rattle.pair_table.proofs.Explored.{explored_begins}
use Rattle.pair_table.proofs.Verdict.{judges, overflows}
use Rattle.pair_table.proofs.Compose.{ordered}
use Rattle.pair_table.proofs.Worked.{worked}
use Rattle.compare.specs.declared.filled.Filled.{Filled}
use Rattle.compare.specs.Rows.{pair_of, pairs_of}
use Rattle.compare.specs.Growth.{Grew, Full, Unranked, pairs_in}
use Rattle.compare.specs.Ranks.{Alike, Fair}
use Rattle.compare.proofs.Rows.{rows_laid, length_pairs, pair_at}
use Rattle.compare.proofs.Growth.{grew_on, grew_is, full_on, full_back}
use Rattle.compare.proofs.Sweeping.{pairs_alike, long_alike, fair_start}

-- ── the modules ──

-- a module that is there has its start, and one that is not has none
pub start_known : (ms : List Module) (k p : ℕ) → Some p ≡ option_map start_of (nth ms k) → (k < length ms) × ((module_in ms k).start ≡ p)
start_known [] k p e = absurd (let z : ◌≡◌ {A = ℕ} 0 1 = cc in omega arith)
start_known (m ∷ ms) zero p e = (omega arith, cc)
start_known (m ∷ ms) (suc k) p e = let s = start_known ms k p e in (omega (arith, s.0), s.1)

pub start_unknown : (ms : List Module) (k : ℕ) → None ≡ option_map start_of (nth ms k) → length ms ≤ k
start_unknown [] k e = omega arith
start_unknown (m ∷ ms) zero e = absurd (let z : ◌≡◌ {A = ℕ} 0 1 = cc in omega arith)
start_unknown (m ∷ ms) (suc k) e = omega (arith, start_unknown ms k e)

same_verdict : (n m x y : ℕ) → n ≡ m → x ≡ y → ◌≡◌ {A = Compared} (record { pairs = n; rank = x }) (record { pairs = m; rank = y })
same_verdict n m x y e f = ap {B = Compared} (λ (k : ℕ). record { pairs = k; rank = x }) e ∙ ap {B = Compared} (λ (k : ℕ). record { pairs = m; rank = k }) f

-- ── the contract, as one record for each way out ──

pub record Compares (ms : Catalogue) (new old : ℕ) (before after : List PairRow) (r : Result Compared CompareFault) : Type 0 where
  pub answer : r ≡ answer ms new old (length before)
  pub table : after ≡ table_after ms new old before
  pub judges : MatchResult r (λ v. Judges (module_in ms new) (module_in ms old) v (take v.pairs after)) (λ e. Refuses ms new old (take (room (length before)) after) e)
  pub ordered : Ordered ms
  pub worked : Worked

-- what the start of a module that is asked for tells
pub start_there : (o : Option ℕ) (e : CompareFault) (p : ℕ) → Ok p ≡ ok_or o e → Some p ≡ o
start_there None e p h = absurd (let z : ◌≡◌ {A = ℕ} 0 1 = cc in omega arith)
start_there (Some x) e p h = cc

pub start_missing : (o : Option ℕ) (e d : CompareFault) → Err d ≡ ok_or o e → (None ≡ o) × (d ≡ e)
start_missing None e d h = (refl, cc)
start_missing (Some x) e d h = absurd (let z : ◌≡◌ {A = ℕ} 0 1 = cc in omega arith)

pub at_exit : (ms : Catalogue) (new old : ℕ) (t t' u u' : List PairRow) {r : Result Compared CompareFault} → t ≡ t' → u' ≡ u
    → Compares ms new old t u r → Compares ms new old t' u' r
at_exit ms new old t t' u u' {r} et eu k =
    subst (λ (x : List PairRow). Compares ms new old x u' r) et (subst (λ (y : List PairRow). Compares ms new old t y r) (sym eu) k)

module _ (ms : Catalogue) (new old : ℕ) (lawful : Lawful ms) where
  abbrev answer_by : Bool → Bool → Bool → Result Compared CompareFault
  answer_by a b c =
      elim a [
        | true ↦ elim b [
          | true ↦ elim c [ true ↦ Ok (verdict (module_in ms new) (module_in ms old)) | false ↦ Err TableTooSmall ]
          | false ↦ Err UnknownNew
        ]
        | false ↦ Err UnknownOld
      ]

  abbrev table_by : List PairRow → Bool → Bool → Bool → List PairRow
  table_by t a b c =
      elim a [
        | true ↦ elim b [
          | true ↦ elim c [ true ↦ filled (module_in ms new) (module_in ms old) t | false ↦ cut_short (module_in ms new) (module_in ms old) t ]
          | false ↦ t
        ]
        | false ↦ t
      ]

  answer_is : (n : ℕ) (a b c : Bool) → ltb old (length ms) ≡ a → ltb new (length ms) ≡ b → suffices (module_in ms new) (module_in ms old) n ≡ c → answer ms new old n ≡ answer_by a b c
  unfolding answer
  answer_is n a b c ea eb ec =
      ap (λ (x : Bool). answer_by x (ltb new (length ms)) (suffices (module_in ms new) (module_in ms old) n)) ea
      ∙ ap (λ (x : Bool). answer_by a x (suffices (module_in ms new) (module_in ms old) n)) eb
      ∙ ap (λ (x : Bool). answer_by a b x) ec

  table_is : (t : List PairRow) (a b c : Bool) → ltb old (length ms) ≡ a → ltb new (length ms) ≡ b → suffices (module_in ms new) (module_in ms old) (length t) ≡ c → table_after ms new old t ≡ table_by t a b c
  unfolding table_after
  table_is t a b c ea eb ec =
      ap (λ (x : Bool). table_by t x (ltb new (length ms)) (suffices (module_in ms new) (module_in ms old) (length t))) ea
      ∙ ap (λ (x : Bool). table_by t a x (suffices (module_in ms new) (module_in ms old) (length t))) eb
      ∙ ap (λ (x : Bool). table_by t a b x) ec

  pub old_unknown : (t : List PairRow) → None ≡ option_map start_of (nth ms old) → Compares ms new old t t (Err UnknownOld)
  old_unknown t e =
      let u : ltb old (length ms) ≡ false = le-ltb old (length ms) (start_unknown ms old e) in
      record {
        answer = sym (answer_is (length t) false _ _ u refl refl);
        table = sym (table_is t false _ _ u refl refl);
        judges = start_unknown ms old e;
        ordered = ordered ms lawful;
        worked = worked;
      }

  pub new_unknown : (t : List PairRow) (q : ℕ) → Some q ≡ option_map start_of (nth ms old) → None ≡ option_map start_of (nth ms new) → Compares ms new old t t (Err UnknownNew)
  new_unknown t q o e =
      let k : ltb old (length ms) ≡ true = lt-ltb old (length ms) (start_known ms old q o).0 in
      let u : ltb new (length ms) ≡ false = le-ltb new (length ms) (start_unknown ms new e) in
      record {
        answer = sym (answer_is (length t) true false _ k u refl);
        table = sym (table_is t true false _ k u refl);
        judges = ((start_known ms old q o).0, start_unknown ms new e);
        ordered = ordered ms lawful;
        worked = worked;
      }

  module _ (p q : ℕ) (ep : Some p ≡ option_map start_of (nth ms new)) (eq : Some q ≡ option_map start_of (nth ms old)) where
    abbrev N : Module
    N = module_in ms new

    abbrev O : Module
    O = module_in ms old

    new_in : ltb new (length ms) ≡ true
    new_in = lt-ltb new (length ms) (start_known ms new p ep).0

    old_in : ltb old (length ms) ≡ true
    old_in = lt-ltb old (length ms) (start_known ms old q eq).0

    begun : ◌≡◌ {A = List Pair} (pair p q ∷ []) (starts N O ∷ [])
    begun = ap (λ (x : ℕ). pair x q ∷ []) (sym (start_known ms new p ep).1) ∙ ap (λ (y : ℕ). pair N.start y ∷ []) (sym (start_known ms old q eq).1)

    -- the rows before the first pair is added, after that, and as they are explored
    module _ (f g : Filled) (none : f.count ≡ 0) where
      first_pair : added (pairs_in f) (pair p q ∷ []) ≡ starts N O ∷ []
      first_pair = ap (λ (n : ℕ). added (pairs_of n f.rows.now) (pair p q ∷ [])) none ∙ begun

      rows_are : Grew f g (added (pairs_in f) (pair p q ∷ [])) → explored N O most_rows 0 (pairs_in g) ≡ rows N O
      unfolding rows
      rows_are k = ap (explored N O most_rows 0) (k.rows ∙ first_pair)

      pub refused : (e : CompareFault) → Full f g (rows N O) e → Compares ms new old f.rows.now g.rows.now (Err e)
      unfolding pair_count
      refused e k =
          let t : List PairRow = f.rows.now in
          let u : List PairRow = g.rows.now in
          let bare : Unranked u (room (length t)) = k.unranked (λ j l. absurd (omega arith)) in
          let over : suffices N O (length t) ≡ false = lt-leb (pair_count N O) (room (length t)) k.over in
          let laid_out : u ≡ cut_short N O t = rows_laid (λ x. 0) (room (length t)) t u (take (room (length t)) (rows N O)) (omega (arith, k.long)) bare k.rows k.rest in
          let shown : List PairRow = map (row_of (λ x. 0)) (take (room (length t)) (rows N O)) in
          let size : length shown ≡ room (length t) = length-map (take (room (length t)) (rows N O)) (row_of (λ x. 0)) ∙ length-take-le (room (length t)) (rows N O) (omega (arith, k.over)) in
          let front : take (room (length t)) u ≡ shown = ap (take (room (length t))) laid_out ∙ take_at shown (drop (length (take (room (length t)) (rows N O))) t) (room (length t)) size in
          let why : Overflows N O (take (room (length t)) u) = subst (λ (rs : List PairRow). Overflows N O rs) (sym front) (overflows N O (λ x. 0) (room (length t)) k.over) in
          record {
            answer = ap Err k.why ∙ sym (answer_is (length t) true true false old_in new_in over);
            table = laid_out ∙ sym (table_is t true true false old_in new_in over);
            judges = subst (λ (x : CompareFault). Refuses ms new old (take (room (length t)) u) x) (sym k.why) ((start_known ms old q eq).0, (start_known ms new p ep).0, why);
            ordered = ordered ms lawful;
            worked = worked;
          }

      pub refused_first : (e : CompareFault) → Full f g (added (pairs_in f) (pair p q ∷ [])) e → Compares ms new old f.rows.now g.rows.now (Err e)
      unfolding rows
      refused_first e k =
          refused e
          (full_on f g (starts N O ∷ []) (rows N O) e (subst (λ (xs : List Pair). Full f g xs e) first_pair k) (explored_begins N O most_rows 0 (starts N O ∷ [])))

      pub explored_rows : (h : Filled) → Grew f g (added (pairs_in f) (pair p q ∷ [])) → Grew g h (explored N O most_rows 0 (pairs_in g)) → Grew f h (rows N O)
      explored_rows h k a = grew_on f g h _ (rows N O) k (grew_is g h _ (rows N O) a (rows_are k))

    pub refused_later : (f g h : Filled) → f.count ≡ 0 → (e : CompareFault)
        → Grew f g (added (pairs_in f) (pair p q ∷ [])) → Full g h (explored N O most_rows 0 (pairs_in g)) e → Compares ms new old f.rows.now h.rows.now (Err e)
    refused_later f g h none e k u =
        refused f h none e (full_back f g h (rows N O) _ e k (subst (λ (xs : List Pair). Full g h xs e) (rows_are f g none k) u))

    -- the pairs of the first rows are there
    fair_rows : (f g : Filled) → f.count ≡ 0 → Grew f g (rows N O) → Fair N O (pairs_in g) g.rows.now g.count
    fair_rows f g none k = fair_start N O g.rows.now g.count g.indexed.within (k.unranked (λ j l. absurd (omega arith)))

    pub some_row : (f g : Filled) → Grew f g (rows N O) → 1 ≤ g.count
    unfolding rows
    some_row f g k =
        let b = explored_begins N O most_rows 0 (starts N O ∷ []) in
        omega (arith, ap length b.1, ap length k.rows, length_pairs g.count g.rows.now g.indexed.within)

    first_row : (f g : Filled) (t : List PairRow) → Grew f g (rows N O) → Alike g.rows.now t g.count → pair_of (row t 0) ≡ starts N O
    unfolding rows
    first_row f g t k a =
        let b = explored_begins N O most_rows 0 (starts N O ∷ []) in
        let w : g.count ≤ length t = omega (arith, long_alike g.rows.now t g.count a, g.indexed.within) in
        sym (pair_at g.count t 0 (some_row f g k) w) ∙ ap (λ (xs : List Pair). get_or xs 0 (pair 0 0)) (pairs_alike g.rows.now t g.count a ∙ k.rows ∙ b.1)

    pub accepted : (f g : Filled) (t₃ : List PairRow) → Grew f g (rows N O) → Alike g.rows.now t₃ g.count
        → ((i : ℕ) → i < g.count → (row t₃ i).rank ≡ rank N O (pairs_in g) (pair_of (row t₃ i)))
        → Compares ms new old f.rows.now t₃ (Ok (record { pairs = g.count; rank = (row t₃ 0).rank }))
    unfolding pair_count first_rank
    accepted f g t₃ k a ranked =
        let t : List PairRow = f.rows.now in
        let n : ℕ = g.count in
        let long₂ : n ≤ length g.rows.now = g.indexed.within in
        let long₃ : n ≤ length t₃ = omega (arith, long_alike g.rows.now t₃ n a) in
        let count : length (rows N O) ≡ n = ap length (sym k.rows) ∙ length_pairs n g.rows.now long₂ in
        let enough : suffices N O (length t) ≡ true = le-leb (pair_count N O) (room (length t)) (omega (arith, g.indexed.few, k.long)) in
        let ranks : (i : ℕ) → i < n → (row t₃ i).rank ≡ rank N O (rows N O) (pair_of (row t₃ i)) = λ i l. ranked i l ∙ ap (λ (xs : List Pair). rank N O xs (pair_of (row t₃ i))) k.rows in
        let top : (row t₃ 0).rank ≡ first_rank N O = ranks 0 (some_row f g k) ∙ ap (rank N O (rows N O)) (first_row f g t₃ k a) in
        let out : t₃ ≡ filled N O t = rows_laid (rank N O (rows N O)) n t t₃ (rows N O) long₃ ranks (pairs_alike g.rows.now t₃ n a ∙ k.rows) (a.rest ∙ k.rest) in
        let told : record { pairs = n; rank = (row t₃ 0).rank } ≡ verdict N O = same_verdict n (pair_count N O) (row t₃ 0).rank (first_rank N O) (sym count) top in
        let few : pair_count N O ≤ most_rows = omega (arith, g.indexed.few) in
        let laid_rows : List PairRow = map (row_of (rank N O (rows N O))) (rows N O) in
        let front : take n t₃ ≡ laid_rows = ap (take n) out ∙ take_at laid_rows (drop (length (rows N O)) t) n (length-map (rows N O) (row_of (rank N O (rows N O))) ∙ count) in
        record {
          answer = ap Ok told ∙ sym (answer_is (length t) true true true old_in new_in enough);
          table = out ∙ sym (table_is t true true true old_in new_in enough);
          judges = subst (λ (v : Compared). Judges N O v (take n t₃)) (sym told)
              (subst (λ (rs : List PairRow). Judges N O (verdict N O) rs) (sym front)
              (judges N O (lawful.sound new (start_known ms new p ep).0) (lawful.sound old (start_known ms old q eq).0) few));
          ordered = ordered ms lawful;
          worked = worked;
        }

-- ── the two modules as they are held ──

of_sides : (P : Module → Module → Type 0) (s o s' o' : Module) → s ≡ s' → o ≡ o' → P s o → P s' o'
of_sides P s o s' o' en eo k = subst (λ (x : Module). P x o') en (subst (λ (y : Module). P s y) eo k)

-- what is known once the pair of starts is there: the rows before and after it, and the modules
pub record Begun (ms : Catalogue) (new old : ℕ) (f g : Filled) (s o : Module) : Type 0 where
  pub lawful : Lawful ms
  pub p : ℕ
  pub q : ℕ
  pub new_start : Some p ≡ option_map start_of (nth ms new)
  pub old_start : Some q ≡ option_map start_of (nth ms old)
  pub none : f.count ≡ 0
  pub is_new : s ≡ module_in ms new
  pub is_old : o ≡ module_in ms old
  pub grew : Grew f g (added (pairs_in f) (pair p q ∷ []))

module _ (ms : Catalogue) (new old : ℕ) (f g : Filled) (s o : Module) (b : Begun ms new old f g s o) where
  all_rows : (h : Filled) → Grew g h (explored s o most_rows 0 (pairs_in g)) → Grew f h (rows (module_in ms new) (module_in ms old))
  all_rows h k =
      explored_rows ms new old b.lawful b.p b.q b.new_start b.old_start f g b.none h b.grew
      (of_sides (λ n m. Grew g h (explored n m most_rows 0 (pairs_in g))) s o _ _ b.is_new b.is_old k)

  pub explored_full : (h : Filled) (e : CompareFault) → Full g h (explored s o most_rows 0 (pairs_in g)) e → Compares ms new old f.rows.now h.rows.now (Err e)
  explored_full h e u =
      refused_later ms new old b.lawful b.p b.q b.new_start b.old_start f g h b.none e b.grew
      (of_sides (λ n m. Full g h (explored n m most_rows 0 (pairs_in g)) e) s o _ _ b.is_new b.is_old u)

  pub explored_fair : (h : Filled) → Grew g h (explored s o most_rows 0 (pairs_in g)) → Fair s o (pairs_in h) h.rows.now h.count
  explored_fair h k =
      of_sides (λ n m. Fair n m (pairs_in h) h.rows.now h.count) (module_in ms new) (module_in ms old) _ _ (sym b.is_new) (sym b.is_old)
      (fair_rows ms new old b.lawful b.p b.q b.new_start b.old_start f h b.none (all_rows h k))

  pub settled_rows : (h : Filled) (t : List PairRow) (n : ℕ) → Grew g h (explored s o most_rows 0 (pairs_in g)) → Alike h.rows.now t h.count → n ≡ h.count
      → ((i : ℕ) → i < h.count → (row t i).rank ≡ rank s o (pairs_in h) (pair_of (row t i)))
      → Compares ms new old f.rows.now t (Ok (record { pairs = n; rank = (row t 0).rank }))
  settled_rows h t n k a en ranked =
      subst (λ (m : ℕ). Compares ms new old f.rows.now t (Ok (record { pairs = m; rank = (row t 0).rank }))) (sym en)
      (accepted ms new old b.lawful b.p b.q b.new_start b.old_start f h t (all_rows h k) a
      (of_sides (λ n m. (i : ℕ) → i < h.count → (row t i).rank ≡ rank n m (pairs_in h) (pair_of (row t i))) s o _ _ b.is_new b.is_old ranked))
