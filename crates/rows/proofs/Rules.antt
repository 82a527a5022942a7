-- The meaning of a module is what the rules derive, and it keeps the laws. Assumes nothing.
use Rattle.std.proofs.Common.{◌≡◌, ℕ, zero, suc, ◌*◌, ◌/◌, ◌%◌, ◌<◌, ◌≤◌, Bool, true, false, not, T, ltb, ◌⊎◌, List, [], ◌∷◌, map, length, get_or, ℤ, nat_abs, is_some, Some, None, Option, sym, refl, ap, ◌∙◌, subst, inl, inr, arith}
use lib.ListN.{length-map}
use Rattle.std.proofs.lemmas.Bool.{cases_lt, ltb-true, ltb-false}
use Rattle.std.proofs.lemmas.List.{get_or_past}
use Rattle.std.proofs.lemmas.List.FromFn.{length-map-range_with_len, get_or-map-range_with_len}
use Rattle.catalogue.specs.declared.Move.{Move}
use Rattle.action.specs.Lists.{◌∈◌}
use Rattle.action.specs.Action.{internal, last_port}
use Rattle.action.specs.Sets.{has, ◌∋◌}
use Rattle.catalogue.specs.Catalogue.{Catalogue, Module, State, Sound, Lawful, nowhere, absent, move, codes, state, module_in, most_moves}
use Rattle.action.proofs.Basics.{T_true}
use Rattle.action.proofs.Sets.{none_has}
use Rattle.rows.specs.declared.row.Place.{Place}
use Rattle.rows.specs.declared.row.ModuleRow.{ModuleRow}
use Rattle.rows.specs.declared.fault.RowsFault.{RowsFault}
use Rattle.rows.specs.Places.{moves_by, ages, code, depth_of, moves_of, urgent_of, older, tick_of, state_of, module_of}
use Rattle.rows.specs.Opening.{book_places, book_modules, places_of, module_at, fault, opened, WellFormed, row_of}
use Rattle.rows.specs.Calculus.{Term, ◌⊕◌, t_nil, t_act, t_wait, t_sum, t_name, name, Ticks, equations, Residual, as_name}
use Rattle.rows.specs.Rules.{StandsFor, AsDerived, ByTheRules, BooksByTheRules, BooksLawful, WaitsDelayNothing, TimeDeterministic}
use Rattle.rows.proofs.Inversion.{urgent_moves, t_of_nil, t_of_act, t_of_wait, t_of_sum, t_of_name}
use Rattle.rows.proofs.Accepted.{places_length, each_accepted}
use Rattle.rows.proofs.Derived.{led, leads, urged, urges, ticked, ticks, settled, termed, moves_is}

not_T_of : (b : Bool) → b ≡ false → T b → ⊥
not_T_of b e t = subst T e t

module _ (ps : List Place) (s : ℕ) where
  abbrev M : Module
  M = module_of ps s

  pub size : codes M ≡ ages * length ps
  size = length-map-range_with_len (λ c. state_of ps (c / ages) (c % ages)) 0 (ages * length ps)

  pub at_in : (c : ℕ) → c < ages * length ps → state M c ≡ state_of ps (c / ages) (c % ages)
  at_in c l = get_or-map-range_with_len (λ x. state_of ps (x / ages) (x % ages)) 0 (ages * length ps) c c nowhere l (omega arith)

  pub at_out : (c : ℕ) → ages * length ps ≤ c → state M c ≡ nowhere
  at_out c l = get_or_past M.states c nowhere (omega (arith, size))

  pub at_code : (i k : ℕ) → i < length ps → k < ages → state M (code i k) ≡ state_of ps i k
  at_code i k l y =
      let a : code i k / ages ≡ i = omega arith in
      let b : code i k % ages ≡ k = omega arith in
      at_in (code i k) (omega arith) ∙ ap (λ x. state_of ps x (code i k % ages)) a ∙ ap (λ x. state_of ps i x) b

  module _ (ok : WellFormed ps) where
    grown : (i k : ℕ) (Q : Term) → i < length ps → k < ages → Residual ps Q i (suc k) → Residual ps Q i (older (depth_of ps i) k) × (older (depth_of ps i) k < ages)
    grown i k Q l y h = go (ltb k (depth_of ps i)) refl
      where
        go : (b : Bool) → ltb k (depth_of ps i) ≡ b → Residual ps Q i (elim b [ true ↦ suc k | false ↦ k ]) × (◌<◌ (elim b [ true ↦ suc k | false ↦ k ]) ages)
        go true q = (h, omega (arith, ltb-true k (depth_of ps i) q, ok.shallow i l))
        go false q = (settled ps ok i l k Q (ltb-false k (depth_of ps i) q) h, y)

    older_young : (i k : ℕ) → i < length ps → k < ages → older (depth_of ps i) k < ages
    older_young i k l y = go (ltb k (depth_of ps i)) refl
      where
        go : (b : Bool) → ltb k (depth_of ps i) ≡ b → ◌<◌ (elim b [ true ↦ suc k | false ↦ k ]) ages
        go true q = omega (arith, ltb-true k (depth_of ps i) q, ok.shallow i l)
        go false q = y

    derived : (i k : ℕ) (P : Term) → i < length ps → k < ages → Residual ps P i k → AsDerived ps M (code i k) P
    derived i k P l y w = record {
      moves_derived = λ a d h. (let r = leads ps ok i l k P a d w (subst (λ (x : State). move a d ∈ x.moves) e h) in (name r.0, r.3, record { place = r.0; age = 0; of_module = r.1; of_age = omega arith; coded = r.2; residual = as_name }));
      derived_moves = λ a Q h. (let r = led ps ok i l k P a Q w h in (code r.0 0, subst (λ (x : State). move a (code r.0 0) ∈ x.moves) (sym e) r.3, record { place = r.0; age = 0; of_module = r.1; of_age = omega arith; coded = refl; residual = subst (λ X. Residual ps X r.0 0) (sym r.2) as_name }));
      urgent_derived = λ a h. urges ps ok i l k P a w (subst (λ (x : State). x.urgent ∋ a) e h);
      derived_urgent = λ a h. subst (λ (x : State). x.urgent ∋ a) (sym e) (urged ps ok i l k P a w h);
      tick_derived = λ d h. there d (has (urgent_of ps i k) internal) refl (subst (λ (x : State). x.tick ≡ Some d) e h);
      derived_tick = λ Q h. (let r = ticked ps ok i l k P Q w h in (code i (older (depth_of ps i) k), subst (λ (x : State). x.tick ≡ Some (code i (older (depth_of ps i) k))) (sym e) (back (has (urgent_of ps i k) internal) refl r.1), means Q r.0));
    }
      where
        e : state M (code i k) ≡ state_of ps i k
        e = at_code i k l y

        means : (Q : Term) → Residual ps Q i (suc k) → StandsFor ps (code i (older (depth_of ps i) k)) Q
        means Q h = let g = grown i k Q l y h in record { place = i; age = older (depth_of ps i) k; of_module = l; of_age = g.1; coded = refl; residual = g.0 }

        there : (d : ℕ) (b : Bool) → has (urgent_of ps i k) internal ≡ b → ◌≡◌ {A = Option ℕ} (elim b [ true ↦ None | false ↦ Some (code i (older (depth_of ps i) k)) ]) (Some d) → (Q : Term) × Ticks (equations ps) P Q × StandsFor ps d Q
        there d true q h = let z : ◌≡◌ {A = ℕ} 0 1 = cc in absurd (omega arith)
        there d false q h =
            let t = ticks ps ok i l k P w (not_T_of (has (urgent_of ps i k) internal) q) in
            let r = ticked ps ok i l k P t.0 w t.1 in
            let z : code i (older (depth_of ps i) k) ≡ d = cc in
            (t.0, t.1, subst (λ x. StandsFor ps x t.0) z (means t.0 r.0))

        back : (b : Bool) → has (urgent_of ps i k) internal ≡ b → (urgent_of ps i k ∋ internal → ⊥) → ◌≡◌ {A = Option ℕ} (elim b [ true ↦ None | false ↦ Some (code i (older (depth_of ps i) k)) ]) (Some (code i (older (depth_of ps i) k)))
        back true q u = absurd (u (T_true (has (urgent_of ps i k) internal) q))
        back false q u = refl

    pub by_the_rules : s < length ps → ByTheRules ps M s
    by_the_rules l = record {
      starts_in = record { place = s; age = 0; of_module = l; of_age = omega arith; coded = refl; residual = as_name };
      of_some_term = λ c h. (let b : c < ages * length ps = omega (arith, size) in let i : c / ages < length ps = omega arith in let t = termed ps ok (c / ages) i (c % ages) in (t.0, record { place = c / ages; age = c % ages; of_module = i; of_age = omega arith; coded = omega arith; residual = t.1 }));
      as_derived = λ c P w. subst (λ x. AsDerived ps M x P) (sym w.coded) (derived w.place w.age P w.of_module w.of_age w.residual);
    }

    -- ── the laws ──

    -- a fact of every state, from those of the places and of nowhere
    every : (F : State → Type 0) → F nowhere → ((i k : ℕ) → i < length ps → k < ages → F (state_of ps i k)) → (c : ℕ) → F (state M c)
    every F n h c = go (cases_lt c (ages * length ps))
      where
        go : (c < ages * length ps) ⊎ (ages * length ps ≤ c) → F (state M c)
        go (inl l) = subst F (sym (at_in c l)) (h (c / ages) (c % ages) (omega arith) (omega arith))
        go (inr l) = subst F (sym (at_out c l)) n

    lead : (i : ℕ) → i < length ps → (z : Move) → z ∈ moves_of ps i → (nat_abs z.action ≤ last_port) × (z.target < codes M)
    lead i l z h = let r = leads ps ok i l 0 (name i) z.action z.target as_name h in (r.4, omega (arith, size, r.1, r.2))

    pass : (i k d : ℕ) → i < length ps → k < ages → tick_of ps i k ≡ Some d → d < codes M
    pass i k d l y h = go (has (urgent_of ps i k) internal) h
      where
        go : (b : Bool) → ◌≡◌ {A = Option ℕ} (elim b [ true ↦ None | false ↦ Some (code i (older (depth_of ps i) k)) ]) (Some d) → d < codes M
        go true q = let z : ◌≡◌ {A = ℕ} 0 1 = cc in absurd (omega arith)
        go false q = let z : code i (older (depth_of ps i) k) ≡ d = cc in omega (arith, size, older_young i k l y)

    tick : (i k : ℕ) → is_some (tick_of ps i k) ≡ not (has (urgent_of ps i k) internal)
    tick i k = go (has (urgent_of ps i k) internal)
      where
        go : (b : Bool) → is_some {T = ℕ} (elim b [ true ↦ None | false ↦ Some (code i (older (depth_of ps i) k)) ]) ≡ not b
        go true = refl
        go false = refl

    offer : (i k : ℕ) → i < length ps → (a : ℤ) → urgent_of ps i k ∋ a → (d : ℕ) × (move a d ∈ moves_of ps i)
    offer i k l a u =
        let t = termed ps ok i l k in
        let q = urgent_moves (equations ps) (urges ps ok i l k t.0 a t.1 u) in
        let r = led ps ok i l k t.0 a q.0 t.1 q.1 in
        (code r.0 0, r.3)

    pub sound : s < length ps → length ps ≤ book_places → Sound M
    sound l b = record {
      some_code = omega (arith, size);
      few_codes = omega (arith, size);
      few_moves = every (λ x. length x.moves ≤ most_moves) (omega arith) (λ i k h y. ok.few i h);
      ported = every (λ x. (z : Move) → z ∈ x.moves → nat_abs z.action ≤ last_port) (λ z h. absurd h) (λ i k h y z m. (lead i h z m).0);
      starts = omega (arith, size);
      leads = every (λ x. (z : Move) → z ∈ x.moves → z.target < codes M) (λ z h. absurd h) (λ i k h y z m. (lead i h z m).1);
      passes = every (λ x. (d : ℕ) → x.tick ≡ Some d → d < codes M) (λ d h. let z : ◌≡◌ {A = ℕ} 0 1 = cc in absurd (omega arith)) (λ i k h y d m. pass i k d h y m);
      ticks = λ c h. subst (λ (x : State). is_some x.tick ≡ not (has x.urgent internal)) (sym (at_in c (omega (arith, size)))) (tick (c / ages) (c % ages));
      offers = every (λ x. (a : ℤ) → x.urgent ∋ a → (d : ℕ) × (move a d ∈ x.moves)) (λ a u. absurd (subst T (none_has a) u)) (λ i k h y a u. offer i k h a u);
    }

-- ── a book ──

pub opened_is : (rows : List Place) (ms : List ModuleRow) → fault rows ms ≡ None → opened rows ms ≡ map (module_at rows) ms
unfolding opened
opened_is rows ms e = ap {B = Catalogue} (λ (o : Option RowsFault). elim o [ None ↦ map (module_at rows) ms | Some x ↦ [] ]) e

pub nothing : (rows : List Place) (ms : List ModuleRow) (x : RowsFault) → fault rows ms ≡ Some x → opened rows ms ≡ []
unfolding opened
nothing rows ms x e = ap {B = Catalogue} (λ (o : Option RowsFault). elim o [ None ↦ map (module_at rows) ms | Some y ↦ [] ]) e

pub module_is : (rows : List Place) (ms : List ModuleRow) → fault rows ms ≡ None → (m : ℕ) → m < length ms → module_in (opened rows ms) m ≡ module_at rows (row_of ms m)
module_is rows ms e m l = ap (λ (c : Catalogue). module_in c m) (opened_is rows ms e) ∙ at_map ms m l
  where
    at_map : (ns : List ModuleRow) (n : ℕ) → n < length ns → get_or (map (module_at rows) ns) n absent ≡ module_at rows (row_of ns n)
    at_map [] n h = absurd (omega arith)
    at_map (r ∷ rs) zero h = refl
    at_map (r ∷ rs) (suc n) h = at_map rs n (omega arith)

pub books_by_the_rules : (rows : List Place) (ms : List ModuleRow) → fault rows ms ≡ None → BooksByTheRules rows ms
books_by_the_rules rows ms e m l =
    let g = each_accepted rows ms e m l in
    let r : ModuleRow = row_of ms m in
    subst (λ x. ByTheRules (places_of rows r) x r.start) (sym (module_is rows ms e m l))
    (by_the_rules (places_of rows r) r.start g.well_formed (omega (arith, places_length rows m r g, g.start_known)))

pub books_lawful : BooksLawful
books_lawful rows ms = go (fault rows ms) refl
  where
    few : fault rows ms ≡ None → (n : ℕ) → length ms ≡ n → length ms ≤ book_modules
    few e zero q = omega arith
    few e (suc n) q = let g = each_accepted rows ms e n (omega arith) in omega (arith, g.few_modules)

    go : (o : Option RowsFault) → fault rows ms ≡ o → Lawful (opened rows ms)
    go (Some x) e = subst Lawful (sym (nothing rows ms x e)) (record { few = omega arith; sound = λ m h. absurd (omega arith) })
    go None e = record {
      few = omega (arith, few e (length ms) refl, ap length (opened_is rows ms e), length-map ms (module_at rows));
      sound = λ m h. (let l : m < length ms = omega (arith, ap length (opened_is rows ms e), length-map ms (module_at rows)) in
          let g = each_accepted rows ms e m l in
          let r : ModuleRow = row_of ms m in
          let n = places_length rows m r g in
          subst Sound (sym (module_is rows ms e m l)) (sound (places_of rows r) r.start g.well_formed (omega (arith, n, g.start_known)) (omega (arith, n, g.few_places))));
    }

pub waits_delay_nothing : (rows : List Place) (ms : List ModuleRow) → fault rows ms ≡ None → WaitsDelayNothing rows ms
waits_delay_nothing rows ms e m l i j k n hi hj yk yn q =
    let g = each_accepted rows ms e m l in
    let r : ModuleRow = row_of ms m in
    let ps : List Place = places_of rows r in
    ap (λ (x : Module). (state x (code i k)).moves) (module_is rows ms e m l)
    ∙ ap (λ (x : State). x.moves) (at_code ps r.start i k hi yk)
    ∙ moves_is ps g.well_formed i hi ∙ ap (λ p. moves_by p (λ x. moves_of ps x)) q
    ∙ sym (ap (λ (x : Module). (state x (code j n)).moves) (module_is rows ms e m l) ∙ ap (λ (x : State). x.moves) (at_code ps r.start j n hj yn))

one_tick : (E : ℕ → Term) {P Q : Term} (R : Term) → Ticks E P Q → Ticks E P R → Q ≡ R
one_tick E R t_nil u = sym (t_of_nil E u)
one_tick E R (t_act h) u = sym (t_of_act E u).1
one_tick E R t_wait u = sym (t_of_wait E u)
one_tick E R (t_sum {Q = Q} {P' = P'} {Q' = Q'} s t) u =
    let c = t_of_sum E u in
    ap (λ x. x ⊕ Q') (one_tick E c.0 s c.3) ∙ ap (λ x. c.0 ⊕ x) (one_tick E c.1 t c.4) ∙ sym c.2
one_tick E R (t_name t) u = one_tick E R t (t_of_name E u)

pub time_deterministic : TimeDeterministic
time_deterministic E P Q R s t = one_tick E R s t
