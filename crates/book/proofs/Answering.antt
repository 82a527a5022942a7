-- A question about a module of a book finds what its places have. Assumes nothing.
use Rattle.std.proofs.Common.{◌≡◌, ℕ, zero, suc, ◌+◌, ◌-◌, ◌*◌, ◌/◌, ◌%◌, ◌<◌, ◌≤◌, Bool, true, false, ltb, is_some, List, [], ◌∷◌, length, get_or, take, drop, length-take, Some, None, Option, sym, refl, ap, ◌∙◌, subst, arith}
use lib.ListN.{length-map}
use Rattle.std.proofs.lemmas.List.{get_or_past}
use Rattle.std.proofs.lemmas.Bool.{lt-ltb, le-ltb, ltb-true, ltb-false}
use Rattle.std.specs.Bool.{then_some}
use Rattle.std.specs.Option.{option_map}
use Rattle.action.specs.Lists.{nth}
use Rattle.action.specs.Action.{internal}
use Rattle.action.specs.Sets.{has}
use Rattle.catalogue.specs.Catalogue.{Catalogue, Module, State, nowhere, absent, module_in, state, state_in, codes, start_of}
use Rattle.rows.specs.declared.row.Place.{Place}
use Rattle.rows.specs.declared.row.ModuleRow.{ModuleRow}
use Rattle.rows.specs.declared.fault.RowsFault.{RowsFault}
use Rattle.rows.specs.Places.{code, depth_of, urgent_of, older, state_of}
use Rattle.rows.specs.Opening.{book_places, module_at, fault, opened, row_of, places_in}
use Rattle.rows.proofs.Accepted.{Accepted, each_accepted, places_length}
use Rattle.rows.proofs.Rules.{size, at_in, at_out, module_is, opened_is, nothing}
use Rattle.book.specs.declared.equations.Equations.{Equations}
use Rattle.book.specs.declared.Book.{Book}
use Rattle.book.specs.Keeping.{Known}
use Rattle.book.specs.Asking.{Found, state_with}
use Rattle.book.proofs.Walking.{nth_past}

-- ── a code of a module ──

module _ (ps : List Place) (c : ℕ) where
  -- the place and the age that are told of it, where there is such a place
  abbrev pub here : ℕ × ℕ
  here = (c / 16, c % 16)

  abbrev pub told : Option (ℕ × ℕ)
  told = then_some (ltb (c / 16) (length ps)) here

  pub nowhere_told : None ≡ told → state_with ps c ≡ nowhere
  nowhere_told e = go (ltb (c / 16) (length ps)) refl e
    where
      go : (b : Bool) → ltb (c / 16) (length ps) ≡ b → None ≡ then_some b here → state_with ps c ≡ nowhere
      go true q h = cc
      go false q h = at_out ps 0 c (omega (arith, ltb-false (c / 16) (length ps) q))

  module _ (s : ℕ × ℕ) (e : Some s ≡ told) where
    spot : (c / 16 < length ps) × (s ≡ here)
    spot = go (ltb (c / 16) (length ps)) refl e
      where
        go : (b : Bool) → ltb (c / 16) (length ps) ≡ b → Some s ≡ then_some b here → (c / 16 < length ps) × (s ≡ here)
        go true q h = (ltb-true (c / 16) (length ps) q, cc)
        go false q h = cc

    pub is_place : s.0 < length ps
    is_place = subst (λ (x : ℕ × ℕ). x.0 < length ps) (sym spot.1) spot.0

    pub state_told : state_with ps c ≡ state_of ps s.0 s.1
    state_told = at_in ps 0 c (omega (arith, spot.0)) ∙ ap (λ (x : ℕ × ℕ). state_of ps x.0 x.1) (sym spot.1)

    coded : c ≡ code s.0 s.1
    coded = subst (λ (x : ℕ × ℕ). c ≡ code x.0 x.1) (sym spot.1) (omega arith)

    -- its tick, by whether the internal event is urgent and whether the age is below the depth
    tick_is : (u b : Bool) → has (urgent_of ps s.0 s.1) internal ≡ u → ltb s.1 (depth_of ps s.0) ≡ b → (state_with ps c).tick ≡ elim u [ true ↦ None | false ↦ Some (code s.0 (elim b [ true ↦ suc s.1 | false ↦ s.1 ])) ]
    tick_is u b q r =
        ap (λ (x : State). x.tick) state_told
        ∙ ap {B = Option ℕ} (λ (x : Bool). elim x [ true ↦ None | false ↦ Some (code s.0 (older (depth_of ps s.0) s.1)) ]) q
        ∙ ap {B = Option ℕ} (λ (x : Bool). elim u [ true ↦ None | false ↦ Some (code s.0 (elim x [ true ↦ suc s.1 | false ↦ s.1 ])) ]) r

    pub no_tick : has (urgent_of ps s.0 s.1) internal ≡ true → None ≡ (state_with ps c).tick
    no_tick q = sym (tick_is true (ltb s.1 (depth_of ps s.0)) q refl)

    pub tick_on : has (urgent_of ps s.0 s.1) internal ≡ false → s.1 < depth_of ps s.0 → Some (c + 1) ≡ (state_with ps c).tick
    tick_on q h = let z : c + 1 ≡ code s.0 (suc s.1) = omega (arith, coded) in ap (λ n. Some n) z ∙ sym (tick_is false true q (lt-ltb s.1 (depth_of ps s.0) h))

    pub tick_stays : has (urgent_of ps s.0 s.1) internal ≡ false → depth_of ps s.0 ≤ s.1 → Some c ≡ (state_with ps c).tick
    tick_stays q h = ap (λ n. Some n) coded ∙ sym (tick_is false false q (le-ltb s.1 (depth_of ps s.0) h))

-- ── a module of a book ──

nth_in : (ms : Catalogue) (m : ℕ) → m < length ms → nth ms m ≡ Some (module_in ms m)
nth_in [] m l = absurd (omega arith)
nth_in (x ∷ xs) zero l = refl
nth_in (x ∷ xs) (suc m) l = nth_in xs m (omega arith)

module _ (rows : List Place) (ms : List ModuleRow) where
  -- by the verdict that a book keeps
  pub count_at_fault : (v : Option RowsFault) → v ≡ fault rows ms → true ≡ is_some v → length (opened rows ms) ≡ 0
  count_at_fault (Some e) q s = ap length (nothing rows ms e (sym q))
  count_at_fault None q s = cc

  pub no_fault : (v : Option RowsFault) → v ≡ fault rows ms → false ≡ is_some v → fault rows ms ≡ None
  no_fault None q s = sym q
  no_fault (Some e) q s = cc

  pub count_is : fault rows ms ≡ None → length (opened rows ms) ≡ length ms
  count_is q = ap length (opened_is rows ms q) ∙ length-map ms (module_at rows)

  -- where there is no module nothing is found
  module _ (m : ℕ) (h : Found rows ms m None) where
    pub none_found : nth (opened rows ms) m ≡ None
    none_found = nth_past (opened rows ms) m h

    pub nowhere_found : (c : ℕ) → state_in (opened rows ms) m c ≡ nowhere
    nowhere_found c = ap (λ (x : Module). state x c) (get_or_past (opened rows ms) m absent h)

  -- a module row of a book that is not at fault
  module _ (m : ℕ) (q : fault rows ms ≡ None) (l : m < length ms) where
    pub its_row : Accepted rows m (row_of ms m)
    its_row = each_accepted rows ms q m l

    pub its_part : take ((row_of ms m).first + (row_of ms m).places - (row_of ms m).first) (drop (row_of ms m).first rows) ≡ places_in rows ms m
    its_part = let z : (row_of ms m).first + (row_of ms m).places - (row_of ms m).first ≡ (row_of ms m).places = omega arith in ap (λ n. take n (drop (row_of ms m).first rows)) z

  module _ (m : ℕ) (e : Equations) (h : Found rows ms m (Some e)) where
    taken : Accepted rows m (row_of ms m)
    taken = its_row m h.0 h.1

    its_length : length e.places.now ≡ (row_of ms m).places
    its_length = ap length h.2 ∙ places_length rows m (row_of ms m) taken

    pub its_few : length e.places.now ≤ book_places
    its_few = omega (arith, its_length, taken.few_places)

    pub its_start_small : e.start < 256
    its_start_small = omega (arith, h.3, taken.start_known, taken.few_places)

    its_module : nth (opened rows ms) m ≡ Some (module_at rows (row_of ms m))
    its_module = nth_in (opened rows ms) m (omega (arith, count_is h.0, h.1)) ∙ ap (λ x. Some x) (module_is rows ms h.0 m h.1)

    pub its_codes : Some (16 * length e.places.now) ≡ option_map codes (nth (opened rows ms) m)
    its_codes = ap (λ ps. Some (16 * length ps)) h.2 ∙ ap (λ n. Some n) (sym (size (places_in rows ms m) (row_of ms m).start)) ∙ ap (λ o. option_map codes o) (sym its_module)

    pub its_start : Some (16 * e.start) ≡ option_map start_of (nth (opened rows ms) m)
    its_start = let z : 16 * e.start ≡ code (row_of ms m).start 0 = omega (arith, h.3) in ap (λ n. Some n) z ∙ ap (λ o. option_map start_of o) (sym its_module)

    pub its_state : (c : ℕ) → state_with e.places.now c ≡ state_in (opened rows ms) m c
    its_state c = ap (λ ps. state_with ps c) h.2 ∙ ap (λ (x : Module). state x c) (sym (module_is rows ms h.0 m h.1))

-- the module row that a book has for number m, where its verdict is that nothing is wrong
module _ (b : Book) (m : ℕ) (r : ModuleRow) (ok : false ≡ is_some b.verdict) (row : (m < length b.modules.now) × ((d : ModuleRow) → r ≡ get_or b.modules.now m d)) where
  pub none_wrong : fault b.places.now b.modules.now ≡ None
  none_wrong = no_fault b.places.now b.modules.now b.verdict b.tried ok

  pub held_row : Accepted b.places.now m r
  held_row = subst (λ x. Accepted b.places.now m x) (sym (row.1 _)) (its_row b.places.now b.modules.now m none_wrong row.0)

  pub held_part : take (r.first + r.places - r.first) (drop r.first b.places.now) ≡ places_in b.places.now b.modules.now m
  held_part = let z : r.first + r.places - r.first ≡ r.places = omega arith in ap (λ n. take n (drop r.first b.places.now)) z ∙ ap (λ (x : ModuleRow). take x.places (drop x.first b.places.now)) (row.1 _)

  pub held_few : length (take (r.first + r.places - r.first) (drop r.first b.places.now)) ≤ book_places
  held_few = omega (arith, length-take {A = Place}, held_row.few_places)

  pub its_known : Known (take (r.first + r.places - r.first) (drop r.first b.places.now)) (get_or b.table.rows m [])
  its_known = subst (λ x. Known x (get_or b.table.rows m [])) (sym held_part) (record {
    well_formed = (its_row b.places.now b.modules.now m none_wrong row.0).well_formed;
    summarized = b.kept (b.tried ∙ none_wrong) m row.0;
  })
