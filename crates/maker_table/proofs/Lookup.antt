-- Finding a record by the listed offsets. Assumes nothing.
use Rattle.std.proofs.Common.{◌≡◌, ℕ, zero, suc, ◌+◌, ◌*◌, ◌<◌, ◌≤◌, List, [], ◌∷◌, map, length, get_or, ℤ, Some, None, vec_items, Option, sym, refl, ap, ◌∙◌, subst, arith}
use Rattle.std.specs.Option.{option_map}
use Rattle.std.proofs.lemmas.List.{length-map}
use Rattle.catalogue.specs.declared.Move.{Move}
use Rattle.action.specs.Lists.{nth}
use Rattle.catalogue.specs.Catalogue.{State, Module, nowhere, absent, state, state_in, codes, start_of}
use Rattle.maker_table.specs.declared.index.ModulePlace.{ModulePlace}
use Rattle.maker_table.specs.declared.table.Table.{Table}
use Rattle.maker_table.specs.Table.{written}
use Rattle.table_format.specs.Numbers.{pair}
use Rattle.table_format.specs.Records.{meant_move, meant_state, meant_module}
use Rattle.table_format.specs.Reading.{after, offsets, codes_at, Whole, move_record, move_records, state_record, module_record, meaning}
use Rattle.table_format.specs.Taking.{state_fault, states_fault, module_fault, modules_fault, fault}
use Rattle.maker_table.specs.Index.{place_at, shown, module_offset, state_offset_in, state_offset}
use Rattle.table_format.proofs.Faults.{then_l, then_r}
use Rattle.table_format.proofs.Taken.{taken_none}
use Rattle.table_format.proofs.Fine.{StateFine, state_fine, ModuleFine, module_fine, fine}
use Rattle.table_format.proofs.FromBytes.{count_offsets}

-- the record with number c of those that were tried
pub states_at : (b : List ℕ) (n e j s c : ℕ) → states_fault b n e j s ≡ None → c < j → StateFine b n e (get_or (offsets b j s) c 0)
states_at b n e zero s c h l = absurd (omega arith)
states_at b n e (suc j) s zero h l = state_fine b n e s (then_l (state_fault b n e s) (states_fault b n e j (after b s)) h)
states_at b n e (suc j) s (suc c) h l = states_at b n e j (after b s) c (then_r (state_fault b n e s) (states_fault b n e j (after b s)) h) (omega arith)

-- the module with number k of those that were tried
pub modules_at : (b : List ℕ) (j m k : ℕ) → modules_fault b j m ≡ None → k < j → ModuleFine b (get_or (offsets b j m) k 0)
modules_at b zero m k h l = absurd (omega arith)
modules_at b (suc j) m zero h l = module_fine b m (then_l (module_fault b m) (modules_fault b j (after b m)) h)
modules_at b (suc j) m (suc k) h l = modules_at b j (after b m) k (then_r (module_fault b m) (modules_fault b j (after b m)) h) (omega arith)

-- the same, in a list of the modules' offsets
pub module_of : (b : List ℕ) (n k : ℕ) (os : List ℕ) → fault b ≡ None → n ≡ pair b 1 → os ≡ offsets b n 3 → k < length os → ModuleFine b (get_or os k 0)
module_of b n k os h p e l =
    subst (λ (z : List ℕ). ModuleFine b (get_or z k 0)) (sym (e ∙ ap (λ j. offsets b j 3) p)) (modules_at b (pair b 1) 3 k (fine b h).all_modules (omega (arith, ap length e, count_offsets b n 3)))

-- what a list holds at a place
module _ {A : Type 0} where
  nth_there : (xs : List A) (k : ℕ) (d : A) → k < length xs → nth xs k ≡ Some (get_or xs k d)
  nth_there [] k d l = absurd (omega arith)
  nth_there (x ∷ xs) zero d l = refl
  nth_there (x ∷ xs) (suc k) d l = nth_there xs k d (omega arith)

  nth_past : (xs : List A) (k : ℕ) → length xs ≤ k → nth xs k ≡ None
  nth_past [] k l = refl
  nth_past (x ∷ xs) zero l = absurd (omega arith)
  nth_past (x ∷ xs) (suc k) l = nth_past xs k (omega arith)

nth_some : (xs : List ℕ) (k x : ℕ) → nth xs k ≡ Some x → (k < length xs) × (get_or xs k 0 ≡ x)
nth_some [] k x e = cc
nth_some (y ∷ ys) zero x e = let q : y ≡ x = cc in (omega arith, q)
nth_some (y ∷ ys) (suc k) x e = let r = nth_some ys k x e in (omega (arith, r.0), r.1)

-- what stands where something was looked up
abbrev pub found : {A B : Type 0} → (A → B) → B → Option A → B
found f d None = d
found f d (Some x) = f x

get_d_found : {A B C : Type 0} (g : B → C) (f : A → B) (d : C) (xs : List A) (k : ℕ) → get_or (map g (map f xs)) k d ≡ found (λ x. g (f x)) d (nth xs k)
get_d_found g f d [] k = refl
get_d_found g f d (x ∷ xs) zero = refl
get_d_found g f d (x ∷ xs) (suc k) = get_d_found g f d xs k

nth_map : {A B : Type 0} (f : A → B) (xs : List A) (k : ℕ) → nth (map f xs) k ≡ option_map f (nth xs k)
nth_map f [] k = refl
nth_map f (x ∷ xs) zero = refl
nth_map f (x ∷ xs) (suc k) = nth_map f xs k

nth_mapped : {A B C : Type 0} (g : B → C) (f : A → B) (xs : List A) (k : ℕ) → nth (map g (map f xs)) k ≡ option_map (λ x. g (f x)) (nth xs k)
nth_mapped g f [] k = refl
nth_mapped g f (x ∷ xs) zero = refl
nth_mapped g f (x ∷ xs) (suc k) = nth_mapped g f xs k

abbrev pub module_found : List ℕ → Option ℕ → Module
module_found b o = found (λ i. meant_module (module_record b i)) absent o

abbrev pub state_found : List ℕ → Option ℕ → State
state_found b o = found (λ s. meant_state (state_record b s)) nowhere o

-- the questions, by what a lookup returned
pub told_state : (b : List ℕ) (m c : ℕ) (o : Option ℕ) → o ≡ state_offset b m c → state_in (meaning b) m c ≡ state_found b o
told_state b m c o e = ap (λ (x : Module). state x c) (get_d_found meant_module (module_record b) absent (offsets b (pair b 1) 3) m) ∙ go (module_offset b m) ∙ ap (state_found b) (sym e)
  where
    go : (p : Option ℕ) → state (module_found b p) c ≡ state_found b (state_offset_in b c p)
    go None = refl
    go (Some i) = get_d_found meant_state (state_record b) nowhere (offsets b (codes_at b i) (i + 6)) c

-- of a state whose record was found
pub told_record : (t : Table) (m c : ℕ) (d : List ℕ) (s : ℕ) → d ≡ written t → state_offset (written t) m c ≡ Some s → state_in (meaning (written t)) m c ≡ meant_state (state_record d s)
told_record t m c d s e h = told_state (written t) m c (Some s) (sym h) ∙ ap (λ z. meant_state (state_record z s)) (sym e)

count_codes : (b : List ℕ) (i : ℕ) → codes (meant_module (module_record b i)) ≡ codes_at b i
count_codes b i = length-map (module_record b i).states meant_state ∙ length-map (offsets b (codes_at b i) (i + 6)) (state_record b) ∙ count_offsets b (codes_at b i) (i + 6)

pub told_codes : (b : List ℕ) (m : ℕ) (o : Option ℕ) → o ≡ module_offset b m → option_map codes (nth (meaning b) m) ≡ option_map (codes_at b) o
told_codes b m o e = ap (option_map codes) (nth_mapped meant_module (module_record b) (offsets b (pair b 1) 3) m) ∙ go (module_offset b m) ∙ ap (option_map (codes_at b)) (sym e)
  where
    go : (p : Option ℕ) → option_map codes (option_map (λ i. meant_module (module_record b i)) p) ≡ option_map (codes_at b) p
    go None = refl
    go (Some i) = ap Some (count_codes b i)

pub told_start : (b : List ℕ) (m : ℕ) (o : Option ℕ) → o ≡ module_offset b m → option_map start_of (nth (meaning b) m) ≡ option_map (λ i. pair b (i + 4)) o
told_start b m o e = ap (option_map start_of) (nth_mapped meant_module (module_record b) (offsets b (pair b 1) 3) m) ∙ go (module_offset b m) ∙ ap (option_map (λ i. pair b (i + 4))) (sym e)
  where
    go : (p : Option ℕ) → option_map start_of (option_map (λ i. meant_module (module_record b i)) p) ≡ option_map (λ i. pair b (i + 4)) p
    go None = refl
    go (Some i) = refl

-- a module that is found is fine, and a state that is found lies in the bytes
pub found_fine : (b : List ℕ) (m i : ℕ) → fault b ≡ None → module_offset b m ≡ Some i → ModuleFine b i
found_fine b m i h e =
    let a = nth_some (offsets b (pair b 1) 3) m i e in
    subst (ModuleFine b) a.1 (modules_at b (pair b 1) 3 m (fine b h).all_modules (omega (arith, a.0, count_offsets b (pair b 1) 3)))

pub found_whole : (b : List ℕ) (m c s : ℕ) → fault b ≡ None → state_offset b m c ≡ Some s → Whole b s
found_whole b m c s h e = go (module_offset b m) refl e
  where
    go : (o : Option ℕ) → module_offset b m ≡ o → state_offset_in b c o ≡ Some s → Whole b s
    go None p q = cc
    go (Some i) p q =
        let f = found_fine b m i h p in
        let r = nth_some (offsets b (codes_at b i) (i + 6)) c s q in
        let g = states_at b (codes_at b i) (after b i) (codes_at b i) (i + 6) c f.states (omega (arith, r.0, count_offsets b (codes_at b i) (i + 6))) in
        let w : StateFine b (codes_at b i) (after b i) s = subst (StateFine b (codes_at b i) (after b i)) r.1 g in
        omega (arith, w.inside, w.right, f.inside)

-- the place p of the module with number m
pub record Listed (t : Table) (m : ℕ) (p : ModulePlace) : Type 0 where
  pub there : module_offset (written t) m ≡ Some p.at
  pub states : vec_items p.states ≡ offsets (written t) (codes_at (written t) p.at) (p.at + 6)

pub listed : (t : Table) (m : ℕ) (p : ModulePlace) (ms : List ModulePlace) → ms ≡ vec_items t.modules → m < length ms → p ≡ get_or ms m p → Listed t m p
listed t m p ms e l q = go (module_offset b m) refl
  where
    b : List ℕ
    b = written t

    same : Some (shown p) ≡ option_map (place_at b) (module_offset b m)
    same =
        ap (λ (z : ModulePlace). Some (shown z)) q ∙ ap (option_map shown) (sym (nth_there ms m p l)) ∙ sym (nth_map shown ms m)
        ∙ ap (λ (z : List ModulePlace). nth (map shown z) m) e ∙ ap (λ (z : List (ℕ × List ℕ)). nth z m) t.placed ∙ nth_map (place_at b) (offsets b (pair b 1) 3) m

    go : (o : Option ℕ) → module_offset b m ≡ o → Listed t m p
    go None h = let z : Some (shown p) ≡ None = same ∙ ap (option_map (place_at b)) h in cc
    go (Some i) h =
        let z : Some (shown p) ≡ Some (place_at b i) = same ∙ ap (option_map (place_at b)) h in
        let w : shown p ≡ place_at b i = cc in
        let a : p.at ≡ i = ap (λ (v : ℕ × List ℕ). v.0) w in
        record { there = h ∙ ap Some (sym a); states = ap (λ (v : ℕ × List ℕ). v.1) w ∙ ap (λ k. offsets b (codes_at b k) (k + 6)) (sym a) }

-- a state of that module, and no state of it; its codes and its bytes
module _ (t : Table) (m c : ℕ) (p : ModulePlace) (h : Listed t m p) (ss : List ℕ) (e : ss ≡ vec_items p.states) where
  pub no_state : length ss ≤ c → state_offset (written t) m c ≡ None
  no_state l = ap (state_offset_in (written t) c) h.there ∙ nth_past (offsets (written t) (codes_at (written t) p.at) (p.at + 6)) c (omega (arith, ap length (e ∙ h.states)))

  pub a_state : (a : ℕ) → c < length ss → a ≡ get_or ss c a → state_offset (written t) m c ≡ Some a
  a_state a l q =
      ap (state_offset_in (written t) c) h.there ∙ ap (λ (z : List ℕ). nth z c) (sym (e ∙ h.states)) ∙ nth_there ss c a l ∙ ap Some (sym q)

module _ (t : Table) (m : ℕ) (p : ModulePlace) (h : Listed t m p) where
  pub place_fine : ModuleFine (written t) p.at
  place_fine = found_fine (written t) m p.at (taken_none (written t) t.fine) h.there

  pub place_codes : length (vec_items p.states) ≡ codes_at (written t) p.at
  place_codes = ap length h.states ∙ count_offsets (written t) (codes_at (written t) p.at) (p.at + 6)

-- the move with number k
pub nth_move : (b : List ℕ) (j s k : ℕ) → k < j → nth (map meant_move (move_records b j s)) k ≡ Some (meant_move (move_record b (s + 4 * k)))
nth_move b zero s k l = absurd (omega arith)
nth_move b (suc j) s zero l = let q : s ≡ s + 4 * 0 = omega arith in ap (λ x. Some (meant_move (move_record b x))) q
nth_move b (suc j) s (suc k) l = let q : s + 4 + 4 * k ≡ s + 4 * suc k = omega arith in nth_move b j (s + 4) k (omega arith) ∙ ap (λ x. Some (meant_move (move_record b x))) q

pub no_move : (b : List ℕ) (j s k : ℕ) → j ≤ k → nth (map meant_move (move_records b j s)) k ≡ None
no_move b zero s k l = refl
no_move b (suc j) s zero l = absurd (omega arith)
no_move b (suc j) s (suc k) l = no_move b j (s + 4) k (omega arith)

pub some_move : (a z : ℤ) (d e : ℕ) → a ≡ z → d ≡ e → ◌≡◌ {A = Option Move} (Some (record { action = a; target = d })) (Some (record { action = z; target = e }))
some_move a z d e p q = cc
