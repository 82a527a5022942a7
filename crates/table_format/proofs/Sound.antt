-- The laws of a module, told state by state of its record. Assumes nothing.
use Rattle.std.proofs.Common.{◌≡◌, ℕ, zero, suc, ◌<◌, ◌≤◌, not, ◌&&◌, T, List, [], ◌∷◌, map, length, get_or, ℤ, nat_abs, is_some, Some, sym, refl, ap, ◌∙◌, subst, inl, inr, arith}
use Rattle.std.proofs.lemmas.List.{length-map}
use Rattle.catalogue.specs.declared.Move.{Move}
use Rattle.action.specs.Lists.{◌∈◌}
use Rattle.action.specs.Action.{internal, last_port, same}
use Rattle.action.specs.Sets.{has, set_of, ◌∋◌}
use Rattle.catalogue.specs.Catalogue.{State, Sound, nowhere, state, codes, move, most_moves}
use Rattle.action.proofs.Basics.{and_r, any_some}
use Rattle.action.proofs.Sets.{same_eq, set_of_has, set_passes, none_has}
use Rattle.table_format.specs.Taking.{most_table_states, most_table_moves}
use Rattle.table_format.specs.Records.{MoveRecord, StateRecord, ModuleRecord, marked, meant_move, meant_state, meant_module}

pub record StateKept (n : ℕ) (r : StateRecord) : Type 0 where
  pub few : length r.moves ≤ most_table_moves
  pub near : (m : MoveRecord) → m ∈ r.moves → nat_abs m.action ≤ last_port
  pub leads : (m : MoveRecord) → m ∈ r.moves → m.target < n
  pub passes : (d : ℕ) → r.tick ≡ Some d → d < n
  pub timed : is_some r.tick ≡ not (marked r.moves internal)

pub record ModuleKept (s : ModuleRecord) : Type 0 where
  pub some_state : 1 ≤ length s.states
  pub few_states : length s.states ≤ most_table_states
  pub starts : s.start < length s.states
  pub each_state : (r : StateRecord) → r ∈ s.states → StateKept (length s.states) r

-- membership under map, and what holds of each element and of the default
pub in_map : {A B : Type 0} (f : A → B) (xs : List A) (y : B) → y ∈ map f xs → (x : A) × (x ∈ xs) × (y ≡ f x)
in_map f [] y i = absurd i
in_map f (x ∷ xs) y (inl e) = (x, inl refl, e)
in_map f (x ∷ xs) y (inr i) = let r = in_map f xs y i in (r.0, inr r.1, r.2)

pub map_in : {A B : Type 0} (f : A → B) (xs : List A) (x : A) → x ∈ xs → f x ∈ map f xs
map_in f [] x i = absurd i
map_in f (y ∷ ys) x (inl e) = inl (ap f e)
map_in f (y ∷ ys) x (inr i) = inr (map_in f ys x i)

pub each_at : {A B : Type 0} (P : B → Type 0) (f : A → B) (d : B) (xs : List A) → P d → ((x : A) → x ∈ xs → P (f x)) → (c : ℕ) → P (get_or (map f xs) c d)
each_at P f d [] p h c = p
each_at P f d (x ∷ xs) p h zero = h x (inl refl)
each_at P f d (x ∷ xs) p h (suc c) = each_at P f d xs p (λ y i. h y (inr i)) c

-- only at the codes that are there
pub each_below : {A B : Type 0} (P : B → Type 0) (f : A → B) (d : B) (xs : List A) → ((x : A) → x ∈ xs → P (f x)) → (c : ℕ) → c < length (map f xs) → P (get_or (map f xs) c d)
each_below P f d [] h c l = absurd (omega arith)
each_below P f d (x ∷ xs) h zero l = h x (inl refl)
each_below P f d (x ∷ xs) h (suc c) l = each_below P f d xs (λ y i. h y (inr i)) c (omega arith)

-- an element stands at some place
pub at_place : {A B : Type 0} (f : A → B) (d : B) (xs : List A) (x : A) → x ∈ xs → (c : ℕ) × (c < length (map f xs)) × (get_or (map f xs) c d ≡ f x)
at_place f d [] x i = absurd i
at_place f d (y ∷ ys) x (inl e) = (0, omega arith, ap f (sym e))
at_place f d (y ∷ ys) x (inr i) = let r = at_place f d ys x i in (suc r.0, omega (arith, r.1), r.2)

nowhere_has : (a : ℤ) → nowhere.urgent ∋ a → ⊥
nowhere_has a h = subst T (none_has a) h

pub kept_sound : (s : ModuleRecord) → ModuleKept s → Sound (meant_module s)
kept_sound s h = record {
  some_code = omega (arith, h.some_state, length-map s.states meant_state);
  few_codes = omega (arith, h.few_states, length-map s.states meant_state);
  few_moves = each_at (λ (q : State). length q.moves ≤ most_moves) meant_state nowhere s.states (omega arith) (λ r i. omega (arith, (h.each_state r i).few, length-map r.moves meant_move));
  ported = each_at (λ (q : State). (p : Move) → p ∈ q.moves → nat_abs p.action ≤ last_port) meant_state nowhere s.states (λ p i. absurd i) (λ r i p j. (let u = in_map meant_move r.moves p j in subst (λ (z : Move). nat_abs z.action ≤ last_port) (sym u.2) ((h.each_state r i).near u.0 u.1)));
  starts = omega (arith, h.starts, length-map s.states meant_state);
  leads = each_at (λ (q : State). (p : Move) → p ∈ q.moves → p.target < codes (meant_module s)) meant_state nowhere s.states (λ p i. absurd i) (λ r i p j. (let u = in_map meant_move r.moves p j in let t : p.target ≡ u.0.target = ap (λ (z : Move). z.target) u.2 in omega (arith, (h.each_state r i).leads u.0 u.1, length-map s.states meant_state)));
  passes = each_at (λ (q : State). (d : ℕ) → q.tick ≡ Some d → d < codes (meant_module s)) meant_state nowhere s.states (λ d e. (let z : ◌≡◌ {A = ℕ} 0 1 = cc in absurd (omega arith))) (λ r i d e. omega (arith, (h.each_state r i).passes d e, length-map s.states meant_state));
  ticks = each_below (λ (q : State). is_some q.tick ≡ not (has q.urgent internal)) meant_state nowhere s.states (λ r i. (h.each_state r i).timed ∙ ap not (sym (set_of_has (marked r.moves) internal)));
  offers = each_at (λ (q : State). (a : ℤ) → q.urgent ∋ a → (d : ℕ) × (move a d ∈ q.moves)) meant_state nowhere s.states (λ a k. absurd (nowhere_has a k)) (λ r i a k. offered r a k);
}
  where
    offered : (r : StateRecord) (a : ℤ) → set_of (marked r.moves) ∋ a → (d : ℕ) × (move a d ∈ map meant_move r.moves)
    offered r a k =
        let u = any_some (λ (m : MoveRecord). m.urgent && same m.action a) r.moves (set_passes (marked r.moves) a k) in
        let e = same_eq u.0.action a (and_r u.0.urgent (same u.0.action a) u.2) in
        (u.0.target, subst (λ (z : ℤ). move z u.0.target ∈ map meant_move r.moves) e (map_in meant_move r.moves u.0 u.1))

pub sound_kept : (s : ModuleRecord) → Sound (meant_module s) → length s.states ≤ most_table_states → ((r : StateRecord) → r ∈ s.states → length r.moves ≤ most_table_moves) → ModuleKept s
sound_kept s h few few_moves = record {
  some_state = omega (arith, h.some_code, length-map s.states meant_state);
  few_states = few;
  starts = omega (arith, h.starts, length-map s.states meant_state);
  each_state = λ r i. (let c = at_place meant_state nowhere s.states r i in one_state r (few_moves r i) c.0 c.1 c.2);
}
  where
    one_state : (r : StateRecord) → length r.moves ≤ most_table_moves → (c : ℕ) → c < codes (meant_module s) → state (meant_module s) c ≡ meant_state r → StateKept (length s.states) r
    one_state r fw c l e = record {
      few = fw;
      near = λ m i. subst (λ (q : State). (p : Move) → p ∈ q.moves → nat_abs p.action ≤ last_port) e (h.ported c) (meant_move m) (map_in meant_move r.moves m i);
      leads = λ m i. omega (arith, subst (λ (q : State). (p : Move) → p ∈ q.moves → p.target < codes (meant_module s)) e (h.leads c) (meant_move m) (map_in meant_move r.moves m i), length-map s.states meant_state);
      passes = λ d t. omega (arith, subst (λ (q : State). (d : ℕ) → q.tick ≡ Some d → d < codes (meant_module s)) e (h.passes c) d t, length-map s.states meant_state);
      timed = subst (λ (q : State). is_some q.tick ≡ not (has q.urgent internal)) e (h.ticks c l) ∙ ap not (set_of_has (marked r.moves) internal);
    }
