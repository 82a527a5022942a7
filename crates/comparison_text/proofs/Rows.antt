-- The rows that a comparison leaves in the table, and lines written one after the other. Assumes nothing.
use Rattle.std.proofs.Common.{◌≡◌, ℕ, suc, ◌+◌, ◌<◌, ◌≤◌, Bool, true, false, ltb, List, [], ◌++◌, map, length, get_or, take, drop, IfOk, Ok, Err, Result, sym, refl, ap, ◌∙◌, arith}
use native.Mathlib.Nat.{min-le_left}
use Rattle.std.proofs.lemmas.List.{append_assoc, append-nil, drop_all, length-map, take-append-le, take_all}
use Rattle.std.proofs.lemmas.Result.{IfOk-weaker}
use Rattle.std.proofs.lemmas.Bool.{leb-true}
use Rattle.action.specs.Lists.{each}
use Rattle.catalogue.specs.Catalogue.{Catalogue, Module, module_in}
use Rattle.pair_table.specs.declared.PairRow.{PairRow}
use Rattle.pair_table.specs.declared.Compared.{Compared}
use Rattle.pair_table.specs.declared.CompareFault.{CompareFault}
use Rattle.pair_table.specs.declared.CompareFault.TheVariants.{UnknownOld, UnknownNew, TableTooSmall}
use Rattle.pair_table.specs.Pairs.{most_rows, rows, pair_count}
use Rattle.pair_table.specs.Rounds.{rank}
use Rattle.pair_table.specs.Tables.{answer, table_after, verdict, filled, cut_short, row_of, suffices, room}
use Rattle.report.proofs.Lists.{drop_at, two}
use Rattle.comparison_text.specs.Text.{answer_line, comparison_line, comparison_within, row_line, row_lines, ranked}

module _ {A : Type 0} where
  -- written one after the other: out, and what is left, is always the same
  pub each_on : (f : A → List ℕ) (xs : List A) (k : ℕ) (d : A) (out more z : List ℕ) → k < length xs → more ≡ out ++ f (get_or xs k d) → out ++ each f (drop k xs) ≡ z → more ++ each f (drop (k + 1) xs) ≡ z
  each_on f xs k d out more z l p h =
      let q : k + 1 ≡ suc k = omega arith in
      ap (λ j. more ++ each f (drop j xs)) q ∙ ap (λ (w : List ℕ). w ++ each f (drop (suc k) xs)) p
      ∙ append_assoc out (f (get_or xs k d)) (each f (drop (suc k) xs))
      ∙ ap (λ (w : List A). out ++ each f w) (sym (drop_at xs k d l)) ∙ h

  pub each_end : (f : A → List ℕ) (xs : List A) (k : ℕ) (out z : List ℕ) → length xs ≤ k → out ++ each f (drop k xs) ≡ z → out ≡ z
  each_end f xs k out z l h = sym (append-nil out) ∙ ap (λ (w : List A). out ++ each f w) (sym (drop_all k xs l)) ∙ h

-- one text behind another, where the second may want memory
pub made_two : {X E : Type 0} (r : Result X E) (a b b' s₀ s₁ s₂ : List ℕ) → s₁ ≡ s₀ ++ a → b ≡ b' → IfOk r (λ _. s₂ ≡ s₁ ++ b) → IfOk r (λ _. s₂ ≡ s₀ ++ (a ++ b'))
made_two r a b b' s₀ s₁ s₂ p q h =
    IfOk-weaker r (λ _. s₂ ≡ s₁ ++ b) (λ _. s₂ ≡ s₀ ++ (a ++ b')) (λ _ e. two a b' s₀ s₁ s₂ p (e ∙ ap (λ (w : List ℕ). s₁ ++ w) q)) h

-- what a comparison answers, by the outcomes of its three tests, and what the table holds then
abbrev tested : Module → Module → (old_known new_known enough : Bool) → Result Compared CompareFault
tested n o k j b =
    elim k [
      | true ↦ elim j [ true ↦ elim b [ true ↦ Ok (verdict n o) | false ↦ Err TableTooSmall ] | false ↦ Err UnknownNew ]
      | false ↦ Err UnknownOld
    ]

abbrev left : Module → Module → List PairRow → (old_known new_known enough : Bool) → List PairRow
left n o table k j b =
    elim k [
      | true ↦ elim j [ true ↦ elim b [ true ↦ filled n o table | false ↦ cut_short n o table ] | false ↦ table ]
      | false ↦ table
    ]

pub filled_rows : (ms : Catalogue) (new old : ℕ) (table : List PairRow) (v : Compared) → Ok v ≡ answer ms new old (length table) → take v.pairs (table_after ms new old table) ≡ ranked (module_in ms new) (module_in ms old)
unfolding answer table_after ranked pair_count
filled_rows ms new old table v e = go (ltb old (length ms)) (ltb new (length ms)) (suffices n o (length table)) e
  where
    n : Module
    n = module_in ms new

    o : Module
    o = module_in ms old

    go : (k j b : Bool) → Ok v ≡ tested n o k j b → take v.pairs (left n o table k j b) ≡ map (row_of (rank n o (rows n o))) (rows n o)
    go true true true e =
        let p : verdict n o ≡ v = cc in
        ap (λ (w : Compared). take w.pairs (filled n o table)) (sym p)
        ∙ take-append-le (length (rows n o)) (map (row_of (rank n o (rows n o))) (rows n o)) (drop (length (rows n o)) table) (omega (arith, length-map (rows n o) (row_of (rank n o (rows n o)))))
        ∙ take_all (length (rows n o)) (map (row_of (rank n o (rows n o))) (rows n o)) (omega (arith, length-map (rows n o) (row_of (rank n o (rows n o)))))
    go true true false e = let z : ◌≡◌ {A = ℕ} 0 1 = cc in absurd (omega arith)
    go true false b e = let z : ◌≡◌ {A = ℕ} 0 1 = cc in absurd (omega arith)
    go false j b e = let z : ◌≡◌ {A = ℕ} 0 1 = cc in absurd (omega arith)

pub pairs_fit : (ms : Catalogue) (new old table : ℕ) (v : Compared) → Ok v ≡ answer ms new old table → v.pairs ≤ table
unfolding answer
pairs_fit ms new old table v e = go (ltb old (length ms)) (ltb new (length ms)) (suffices n o table) refl e
  where
    n : Module
    n = module_in ms new

    o : Module
    o = module_in ms old

    go : (k j b : Bool) → suffices n o table ≡ b → Ok v ≡ tested n o k j b → v.pairs ≤ table
    go true true true f e =
        let p : verdict n o ≡ v = cc in
        let q : pair_count n o ≡ v.pairs = ap (λ (w : Compared). w.pairs) p in
        omega (arith, leb-true (pair_count n o) (room table) f, min-le_left table most_rows)
    go true true false f e = let z : ◌≡◌ {A = ℕ} 0 1 = cc in absurd (omega arith)
    go true false b f e = let z : ◌≡◌ {A = ℕ} 0 1 = cc in absurd (omega arith)
    go false j b f e = let z : ◌≡◌ {A = ℕ} 0 1 = cc in absurd (omega arith)

-- the first text of all
pub first_text : (s b x y : List ℕ) → s ≡ [] → b ≡ s ++ x → x ≡ y → b ≡ y
first_text s b x y e p q = p ∙ ap (λ (w : List ℕ). w ++ x) e ∙ q

-- two modules that were compared, and the line and the rows that are shown of them
pub compared_shown : {X E : Type 0} (r : Result X E) (ms : Catalogue) (new old : ℕ) (table after : List PairRow) (v : Compared) (found : Result Compared CompareFault) (s₀ s₁ s₂ : List ℕ) → Ok v ≡ answer ms new old (length table) → after ≡ table_after ms new old table → found ≡ answer ms new old (length table) → s₁ ≡ s₀ ++ answer_line new old found → IfOk r (λ _. s₂ ≡ s₁ ++ each row_line (take v.pairs after)) → IfOk r (λ _. s₂ ≡ s₀ ++ comparison_within ms (length table) new old)
compared_shown r ms new old table after v found s₀ s₁ s₂ e t f p h =
    made_two r (comparison_line ms (length table) new old) (each row_line (take v.pairs after)) (row_lines (module_in ms new) (module_in ms old) (answer ms new old (length table))) s₀ s₁ s₂
    (p ∙ ap (λ (w : Result Compared CompareFault). s₀ ++ answer_line new old w) f)
    (ap (λ (w : List PairRow). each row_line (take v.pairs w)) t ∙ ap (λ (w : List PairRow). each row_line w) (filled_rows ms new old table v e) ∙ ap (λ (w : Result Compared CompareFault). row_lines (module_in ms new) (module_in ms old) w) e)
    h

pub refused_shown : (ms : Catalogue) (new old table : ℕ) (why : CompareFault) (found : Result Compared CompareFault) (s₀ s₁ : List ℕ) → Err why ≡ answer ms new old table → found ≡ answer ms new old table → s₁ ≡ s₀ ++ answer_line new old found → s₁ ≡ s₀ ++ comparison_within ms table new old
refused_shown ms new old table why found s₀ s₁ e f p =
    p ∙ ap (λ (w : Result Compared CompareFault). s₀ ++ answer_line new old w) f
    ∙ ap (λ (w : List ℕ). s₀ ++ w) (sym (append-nil (comparison_line ms table new old)) ∙ ap (λ (w : Result Compared CompareFault). comparison_line ms table new old ++ row_lines (module_in ms new) (module_in ms old) w) e)
