-- A table without a fault is the encoding of what stands in it. Assumes nothing.
use Rattle.std.proofs.Common.{◌≡◌, ℕ, zero, suc, ◌+◌, ◌*◌, ◌<◌, ◌≤◌, Bool, true, false, not, ◌||◌, eqb, ltb, List, [], ◌∷◌, ◌++◌, map, length, nat_abs, is_some, Some, None, Option, sym, refl, ap, ◌∙◌, subst, inl, inr, arith}
use Rattle.std.proofs.lemmas.List.{length-map, length-append}
use Rattle.std.proofs.lemmas.Bool.{ltb-true}
use Rattle.action.specs.Lists.{◌∈◌, each}
use Rattle.action.specs.Action.{internal, last_port}
use Rattle.catalogue.specs.Catalogue.{Lawful, Sound, absent}
use Rattle.table_format.specs.declared.fault.TableFault.TheVariants.{LeftOver}
use Rattle.table_format.specs.Numbers.{byte, pair, two, two_byte_end, mark_byte, Bytes}
use Rattle.table_format.specs.Records.{MoveRecord, StateRecord, ModuleRecord, marked, meant_module}
use Rattle.table_format.specs.Encoding.{move_bytes, no_tick, tick_number, state_bytes, module_rest, module_bytes, encoded}
use Rattle.table_format.specs.Reading.{after, offsets, move_record, move_records, tick_of, state_record, codes_at, module_record, module_records, meaning}
use Rattle.table_format.specs.Taking.{move_fault, moves_fault, timed, state_fault, states_fault, module_fault, modules_fault, fault}
use Rattle.table_format.specs.Law.{TableOf}
use Rattle.table_format.proofs.Has.{Has, has_nil, has_cons, has_append, pair_has, has_whole}
use Rattle.table_format.proofs.Fine.{move_fine, state_fine, module_fine, fine}
use Rattle.table_format.proofs.Faults.{then_l, then_r, le_none}
use Rattle.table_format.proofs.Numbers.{action_back, mark_back, tick_back}
use Rattle.table_format.proofs.Sound.{StateKept, ModuleKept, kept_sound, each_below}

-- lengths
pub moves_length : (ms : List MoveRecord) → length (each move_bytes ms) ≡ 4 * length ms
moves_length [] = refl
moves_length (m ∷ ms) = omega (arith, moves_length ms, length-append (move_bytes m) (each move_bytes ms))

pub state_length : (r : StateRecord) → length (state_bytes r) ≡ 5 + 4 * length r.moves
state_length r = omega (arith, moves_length r.moves)

pub count_moves : (b : List ℕ) (j k : ℕ) → length (move_records b j k) ≡ j
count_moves b zero k = refl
count_moves b (suc j) k = ap suc (count_moves b j (k + 4))

pub count_offsets : (b : List ℕ) (j i : ℕ) → length (offsets b j i) ≡ j
count_offsets b zero i = refl
count_offsets b (suc j) i = ap suc (count_offsets b j (after b i))

module _ (b : List ℕ) (B : Bytes b) where
  move_has : (n k : ℕ) → move_fault b n k ≡ None → Has b k (move_bytes (move_record b k))
  move_has n k e =
      let f = move_fine b n k e in
      has_cons b k (k + 1) _ (mark_byte (eqb (byte b (k + 1)) 1) ∷ two (pair b (k + 2))) refl (sym (action_back (byte b k) (B k)))
      (has_cons b (k + 1) (k + 2) _ (two (pair b (k + 2))) (omega arith) (sym (mark_back (byte b (k + 1)) f.bit))
      (pair_has b (k + 2) (pair b (k + 2)) (B (k + 2 + 1)) refl))

  moves_has : (n j k : ℕ) → moves_fault b n j k ≡ None → Has b k (each move_bytes (move_records b j k))
  moves_has n zero k e = has_nil b k
  moves_has n (suc j) k e =
      has_append b k (k + 4) (move_bytes (move_record b k)) (each move_bytes (move_records b j (k + 4))) (omega arith)
      (move_has n k (then_l (move_fault b n k) (moves_fault b n j (k + 4)) e))
      (moves_has n j (k + 4) (then_r (move_fault b n k) (moves_fault b n j (k + 4)) e))

pub move_in : (b : List ℕ) (n j k : ℕ) → moves_fault b n j k ≡ None → (m : MoveRecord) → m ∈ move_records b j k → (nat_abs m.action ≤ last_port) × (m.target < n)
move_in b n zero k e m i = absurd i
move_in b n (suc j) k e m (inl p) =
    let f = move_fine b n k (then_l (move_fault b n k) (moves_fault b n j (k + 4)) e) in
    subst (λ (z : MoveRecord). (nat_abs z.action ≤ last_port) × (z.target < n)) (sym p) (f.near, f.leads)
move_in b n (suc j) k e m (inr i) = move_in b n j (k + 4) (then_r (move_fault b n k) (moves_fault b n j (k + 4)) e) m i

-- the tick rule, of the record
pub timed_is : (b : List ℕ) (s : ℕ) → timed b s ≡ true → is_some (state_record b s).tick ≡ not (marked (state_record b s).moves internal)
timed_is b s h = go (eqb (pair b (s + 2)) no_tick) h
  where
    ms : Bool
    ms = marked (move_records b (byte b (s + 4)) (s + 5)) internal

    go : (t : Bool) → ◌≡◌ {A = Bool} (elim t [ true ↦ marked (move_records b (byte b (s + 4)) (s + 5)) internal | false ↦ not (marked (move_records b (byte b (s + 4)) (s + 5)) internal) ]) true → is_some {T = ℕ} (elim t [ true ↦ None | false ↦ Some (pair b (s + 2)) ]) ≡ not (marked (move_records b (byte b (s + 4)) (s + 5)) internal)
    go true e = ap not (sym e)
    go false e = sym e

tick_in : (t n d : ℕ) → (eqb t no_tick || ltb t n) ≡ true → tick_of t ≡ Some d → d < n
tick_in t n d h e = go (eqb t no_tick) h e
  where
    go : (r : Bool) → (r || ltb t n) ≡ true → ◌≡◌ {A = Option ℕ} (elim r [ true ↦ None | false ↦ Some t ]) (Some d) → d < n
    go true p q = let z : ◌≡◌ {A = ℕ} 0 1 = cc in absurd (omega arith)
    go false p q = let z : t ≡ d = cc in omega (arith, ltb-true t n p)

pub state_kept : (b : List ℕ) (n e s : ℕ) → state_fault b n e s ≡ None → StateKept n (state_record b s)
state_kept b n e s h =
    let f = state_fine b n e s h in
    record {
      few = omega (arith, f.few, count_moves b (byte b (s + 4)) (s + 5));
      near = λ m i. (move_in b n (byte b (s + 4)) (s + 5) f.moves m i).0;
      leads = λ m i. (move_in b n (byte b (s + 4)) (s + 5) f.moves m i).1;
      passes = λ d q. tick_in (pair b (s + 2)) n d f.tick q;
      timed = timed_is b s f.time;
    }

pub states_kept : (b : List ℕ) (n e j s : ℕ) → states_fault b n e j s ≡ None → (r : StateRecord) → r ∈ map (state_record b) (offsets b j s) → StateKept n r
states_kept b n e zero s h r i = absurd i
states_kept b n e (suc j) s h r (inl p) = subst (StateKept n) (sym p) (state_kept b n e s (then_l (state_fault b n e s) (states_fault b n e j (after b s)) h))
states_kept b n e (suc j) s h r (inr i) = states_kept b n e j (after b s) (then_r (state_fault b n e s) (states_fault b n e j (after b s)) h) r i

pub module_kept : (b : List ℕ) (m : ℕ) → module_fault b m ≡ None → ModuleKept (module_record b m)
module_kept b m h =
    let f = module_fine b m h in
    let c : length (module_record b m).states ≡ codes_at b m = length-map (offsets b (codes_at b m) (m + 6)) (state_record b) ∙ count_offsets b (codes_at b m) (m + 6) in
    record {
      some_state = omega (arith, f.some);
      few_states = omega (arith, f.few);
      starts = omega (arith, f.starts);
      each_state = λ r i. subst (λ n. StateKept n r) (sym c) (states_kept b (codes_at b m) (after b m) (codes_at b m) (m + 6) f.states r i);
    }

module _ (b : List ℕ) (B : Bytes b) where
  state_has : (n e s : ℕ) → state_fault b n e s ≡ None → Has b s (state_bytes (state_record b s))
  state_has n e s h =
      let f = state_fine b n e s h in
      let ms = move_records b (byte b (s + 4)) (s + 5) in
      let c = count_moves b (byte b (s + 4)) (s + 5) in
      has_append b s (s + 2) (two (3 + 4 * length ms)) (two (tick_number (tick_of (pair b (s + 2)))) ++ (length ms ∷ each move_bytes ms)) (omega arith)
      (pair_has b s (3 + 4 * length ms) (B (s + 1)) (omega (arith, f.right)))
      (has_append b (s + 2) (s + 4) (two (tick_number (tick_of (pair b (s + 2))))) (length ms ∷ each move_bytes ms) (omega arith)
      (pair_has b (s + 2) (tick_number (tick_of (pair b (s + 2)))) (B (s + 2 + 1)) (sym (tick_back (pair b (s + 2)))))
      (has_cons b (s + 4) (s + 5) (length ms) (each move_bytes ms) (omega arith) (sym c)
      (moves_has b B n (byte b (s + 4)) (s + 5) f.moves)))

  state_after : (n e s : ℕ) → state_fault b n e s ≡ None → after b s ≡ s + length (state_bytes (state_record b s))
  state_after n e s h =
      let f = state_fine b n e s h in
      omega (arith, f.right, state_length (state_record b s), count_moves b (byte b (s + 4)) (s + 5))

  states_has : (n e j s : ℕ) → s ≤ e → states_fault b n e j s ≡ None → Has b s (each state_bytes (map (state_record b) (offsets b j s))) × (s + length (each state_bytes (map (state_record b) (offsets b j s))) ≡ e)
  states_has n e zero s l h = (has_nil b s, omega (arith, le_none e s (LeftOver s) h))
  states_has n e (suc j) s l h =
      let p = then_l (state_fault b n e s) (states_fault b n e j (after b s)) h in
      let f = state_fine b n e s p in
      let rest = states_has n e j (after b s) f.inside (then_r (state_fault b n e s) (states_fault b n e j (after b s)) h) in
      let more = each state_bytes (map (state_record b) (offsets b j (after b s))) in (
        has_append b s (after b s) (state_bytes (state_record b s)) more (state_after n e s p) (state_has n e s p) rest.0,
        omega (arith, rest.1, state_after n e s p, length-append (state_bytes (state_record b s)) more),
      )

  -- the rest of a module fills its length
  rest_length : (m : ℕ) → module_fault b m ≡ None → length (module_rest (module_record b m)) ≡ pair b m
  rest_length m h =
      let f = module_fine b m h in
      let r = states_has (codes_at b m) (after b m) (codes_at b m) (m + 6) f.start_in f.states in
      omega (arith, r.1)

  module_has : (m : ℕ) → module_fault b m ≡ None → Has b m (module_bytes (module_record b m))
  module_has m h =
      let f = module_fine b m h in
      let r = states_has (codes_at b m) (after b m) (codes_at b m) (m + 6) f.start_in f.states in
      let states = map (state_record b) (offsets b (codes_at b m) (m + 6)) in
      let c : length states ≡ codes_at b m = length-map (offsets b (codes_at b m) (m + 6)) (state_record b) ∙ count_offsets b (codes_at b m) (m + 6) in
      has_append b m (m + 2) (two (length (module_rest (module_record b m)))) (module_rest (module_record b m)) (omega arith)
      (pair_has b m (length (module_rest (module_record b m))) (B (m + 1)) (sym (rest_length m h)))
      (has_append b (m + 2) (m + 4) (two (length states)) (two (pair b (m + 4)) ++ each state_bytes states) (omega arith)
      (pair_has b (m + 2) (length states) (B (m + 2 + 1)) (sym c))
      (has_append b (m + 4) (m + 6) (two (pair b (m + 4))) (each state_bytes states) (omega arith)
      (pair_has b (m + 4) (pair b (m + 4)) (B (m + 4 + 1)) refl)
      r.0))

  modules_has : (j m : ℕ) → m ≤ length b → modules_fault b j m ≡ None → Has b m (each module_bytes (map (module_record b) (offsets b j m))) × (m + length (each module_bytes (map (module_record b) (offsets b j m))) ≡ length b)
  modules_has zero m l h = (has_nil b m, omega (arith, le_none (length b) m (LeftOver m) h))
  modules_has (suc j) m l h =
      let p = then_l (module_fault b m) (modules_fault b j (after b m)) h in
      let f = module_fine b m p in
      let rest = modules_has j (after b m) f.inside (then_r (module_fault b m) (modules_fault b j (after b m)) h) in
      let more = each module_bytes (map (module_record b) (offsets b j (after b m))) in
      let q : after b m ≡ m + length (module_bytes (module_record b m)) = omega (arith, rest_length m p) in (
        has_append b m (after b m) (module_bytes (module_record b m)) more q (module_has m p) rest.0,
        omega (arith, rest.1, length-append (module_bytes (module_record b m)) more),
      )

  modules_in : (j m : ℕ) → modules_fault b j m ≡ None → (s : ModuleRecord) → s ∈ map (module_record b) (offsets b j m) → length (module_rest s) < two_byte_end
  modules_in zero m h s i = absurd i
  modules_in (suc j) m h s (inl p) =
      let g = then_l (module_fault b m) (modules_fault b j (after b m)) h in
      subst (λ (z : ModuleRecord). length (module_rest z) < two_byte_end) (sym p) (omega (arith, rest_length m g, B m, B (m + 1)))
  modules_in (suc j) m h s (inr i) = modules_in j (after b m) (then_r (module_fault b m) (modules_fault b j (after b m)) h) s i

pub modules_kept : (b : List ℕ) (j m : ℕ) → modules_fault b j m ≡ None → (s : ModuleRecord) → s ∈ map (module_record b) (offsets b j m) → ModuleKept s
modules_kept b zero m h s i = absurd i
modules_kept b (suc j) m h s (inl p) = subst ModuleKept (sym p) (module_kept b m (then_l (module_fault b m) (modules_fault b j (after b m)) h))
modules_kept b (suc j) m h s (inr i) = modules_kept b j (after b m) (then_r (module_fault b m) (modules_fault b j (after b m)) h) s i

pub count_modules : (b : List ℕ) → length (module_records b) ≡ pair b 1
count_modules b = length-map (offsets b (pair b 1) 3) (module_record b) ∙ count_offsets b (pair b 1) 3

-- what a taken table means is lawful
pub lawful : (b : List ℕ) → fault b ≡ None → Lawful (meaning b)
lawful b h =
    let f = fine b h in
    record {
      few = omega (arith, f.few, length-map (module_records b) meant_module, count_modules b);
      sound = each_below Sound meant_module absent (module_records b) (λ s i. kept_sound s (modules_kept b (pair b 1) 3 f.all_modules s i));
    }

pub back : (b : List ℕ) → Bytes b → fault b ≡ None → TableOf (module_records b) b
back b B h =
    let f = fine b h in
    let c = count_modules b in
    let r = modules_has b B (pair b 1) 3 f.long f.all_modules in
    let each_in = modules_in b B (pair b 1) 3 f.all_modules in
    record {
      carried = record {
        few = omega (arith, f.few);
        writable = λ s i. (let k = modules_kept b (pair b 1) 3 f.all_modules s i in record { few_states = k.few_states; few_moves = λ r j. (k.each_state r j).few; short = each_in s i });
        lawful = lawful b h;
      };
      written = has_whole b (encoded (module_records b)) (omega (arith, r.1))
          (has_cons b 0 1 1 (two (length (module_records b)) ++ each module_bytes (module_records b)) (omega arith) f.version
          (has_append b 1 3 (two (length (module_records b))) (each module_bytes (module_records b)) (omega arith)
          (pair_has b 1 (length (module_records b)) (B (1 + 1)) (sym c))
          r.0));
    }
