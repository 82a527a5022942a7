-- The encoding of modules that a table can carry has no fault, and they stand in it. Assumes nothing.
use Rattle.std.proofs.Common.{◌≡◌, ℕ, ◌+◌, ◌*◌, ◌<◌, ◌≤◌, Bool, true, false, not, ◌||◌, eqb, ltb, List, [], ◌∷◌, ◌++◌, map, length, ℤ, nat_abs, is_some, Some, None, Option, sym, refl, ap, ◌∙◌, subst, inl, inr, arith}
use Rattle.std.proofs.lemmas.List.{length-append}
use Rattle.std.proofs.lemmas.Bool.{lt-ltb, or_right}
use Rattle.action.specs.Lists.{◌∈◌, each}
use Rattle.action.specs.Action.{internal, last_port}
use Rattle.catalogue.specs.Catalogue.{Sound, absent}
use Rattle.table_format.specs.declared.fault.TableFault.TheVariants.{LeftOver}
use Rattle.table_format.specs.Numbers.{byte, pair, two, two_byte_end, action_byte, byte_action, mark_byte}
use Rattle.table_format.specs.Records.{MoveRecord, StateRecord, ModuleRecord, marked, meant_module}
use Rattle.table_format.specs.Encoding.{move_bytes, no_tick, tick_number, state_bytes, module_rest, module_bytes, encoded}
use Rattle.table_format.specs.Reading.{after, offsets, move_record, move_records, tick_of, state_record, codes_at, module_record, module_records}
use Rattle.table_format.specs.Taking.{move_fault, moves_fault, timed, state_fault, states_fault, module_fault, modules_fault, fault, most_table_states}
use Rattle.table_format.specs.Law.{Carried, TableOf}
use Rattle.table_format.proofs.Has.{Has, has_left, has_right, has_head, has_tail, has_pair, whole_has}
use Rattle.table_format.proofs.Faults.{then_i, none_le}
use Rattle.table_format.proofs.Fine.{fine_move, fine_state, fine_module, fine_table}
use Rattle.table_format.proofs.Numbers.{action_forth, mark_forth, tick_forth}
use Rattle.table_format.proofs.Sound.{StateKept, ModuleKept, sound_kept, at_place}
use Rattle.table_format.proofs.FromBytes.{state_length}

move_same : (x y : ℤ) (t u : Bool) (d e : ℕ) → x ≡ y → t ≡ u → d ≡ e → ◌≡◌ {A = MoveRecord} (record { action = x; urgent = t; target = d }) (record { action = y; urgent = u; target = e })
move_same x y t u d e p q r = cc

module _ (b : List ℕ) where
  move_read : (m : MoveRecord) (n k : ℕ) → n ≤ most_table_states → nat_abs m.action ≤ last_port → m.target < n → Has b k (move_bytes m) → (move_record b k ≡ m) × (move_fault b n k ≡ None)
  move_read m n k few near leads h =
      let h1 = has_tail b k (k + 1) (action_byte m.action) (mark_byte m.urgent ∷ two m.target) refl h in
      let e0 : byte b k ≡ action_byte m.action = has_head b k (action_byte m.action) (mark_byte m.urgent ∷ two m.target) h in
      let e1 : byte b (k + 1) ≡ mark_byte m.urgent = has_head b (k + 1) (mark_byte m.urgent) (two m.target) h1 in
      let e2 : pair b (k + 2) ≡ m.target = has_pair b (k + 2) m.target (has_tail b (k + 1) (k + 2) (mark_byte m.urgent) (two m.target) (omega arith) h1) in
      let a : byte_action (byte b k) ≡ m.action = ap byte_action e0 ∙ action_forth m.action near in
      let u : eqb (byte b (k + 1)) 1 ≡ m.urgent = ap (λ x. eqb x 1) e1 ∙ mark_forth m.urgent in
      let d : nat_abs (byte_action (byte b k)) ≤ last_port = subst (λ (z : ℤ). nat_abs z ≤ last_port) (sym a) near in
      let v : byte b (k + 1) ≤ 1 = subst (λ x. x ≤ 1) (sym e1) (bit m.urgent) in
      let w : pair b (k + 2) < n = omega arith in (
        move_same (byte_action (byte b k)) m.action (eqb (byte b (k + 1)) 1) m.urgent (pair b (k + 2)) m.target a u e2,
        fine_move b n k (record { near = d; bit = v; leads = w }),
      )
    where
      bit : (t : Bool) → mark_byte t ≤ 1
      bit true = omega arith
      bit false = omega arith

  moves_read : (ms : List MoveRecord) (n k : ℕ) → n ≤ most_table_states → ((m : MoveRecord) → m ∈ ms → nat_abs m.action ≤ last_port) → ((m : MoveRecord) → m ∈ ms → m.target < n) → Has b k (each move_bytes ms) → (move_records b (length ms) k ≡ ms) × (moves_fault b n (length ms) k ≡ None)
  moves_read [] n k few near leads h = (refl, refl)
  moves_read (m ∷ ms) n k few near leads h =
      let one = move_read m n k few (near m (inl refl)) (leads m (inl refl)) (has_left b k (move_bytes m) (each move_bytes ms) h) in
      let rest = moves_read ms n (k + 4) few (λ x i. near x (inr i)) (λ x i. leads x (inr i)) (has_right b k (k + 4) (move_bytes m) (each move_bytes ms) (omega arith) h) in (
        ap (λ (z : MoveRecord). z ∷ move_records b (length ms) (k + 4)) one.0 ∙ ap (λ (zs : List MoveRecord). m ∷ zs) rest.0,
        then_i (move_fault b n k) (moves_fault b n (length ms) (k + 4)) one.1 rest.1,
      )

  -- the tick rule, back into bytes
  timed_from : (s : ℕ) → is_some (state_record b s).tick ≡ not (marked (state_record b s).moves internal) → timed b s ≡ true
  timed_from s h = go (eqb (pair b (s + 2)) no_tick) (marked (move_records b (byte b (s + 4)) (s + 5)) internal) h
    where
      go : (t u : Bool) → is_some {T = ℕ} (elim t [ true ↦ None | false ↦ Some (pair b (s + 2)) ]) ≡ not u → ◌≡◌ {A = Bool} (elim t [ true ↦ u | false ↦ not u ]) true
      go true true e = refl
      go true false e = e
      go false true e = sym e
      go false false e = refl

  tick_fits : (o : Option ℕ) (n : ℕ) → ((d : ℕ) → o ≡ Some d → d < n) → (eqb (tick_number o) no_tick || ltb (tick_number o) n) ≡ true
  tick_fits None n h = refl
  tick_fits (Some d) n h = or_right (eqb d no_tick) (ltb d n) (lt-ltb d n (h d refl))

  state_same : (x y : Option ℕ) (ms ns : List MoveRecord) → x ≡ y → ms ≡ ns → ◌≡◌ {A = StateRecord} (record { tick = x; moves = ms }) (record { tick = y; moves = ns })
  state_same x y ms ns p q = cc

  state_read : (r : StateRecord) (n e s : ℕ) → n ≤ most_table_states → StateKept n r → Has b s (state_bytes r) → s + length (state_bytes r) ≤ e → (state_record b s ≡ r) × (state_fault b n e s ≡ None) × (after b s ≡ s + length (state_bytes r))
  state_read r n e s few k h l =
      let c = length r.moves in
      let tn = tick_number r.tick in
      let body = each move_bytes r.moves in
      let e0 : pair b s ≡ 3 + 4 * c = has_pair b s (3 + 4 * c) (has_left b s (two (3 + 4 * c)) (two tn ++ (c ∷ body)) h) in
      let h2 = has_right b s (s + 2) (two (3 + 4 * c)) (two tn ++ (c ∷ body)) (omega arith) h in
      let e2 : pair b (s + 2) ≡ tn = has_pair b (s + 2) tn (has_left b (s + 2) (two tn) (c ∷ body) h2) in
      let h4 = has_right b (s + 2) (s + 4) (two tn) (c ∷ body) (omega arith) h2 in
      let e4 : byte b (s + 4) ≡ c = has_head b (s + 4) c body h4 in
      let ms = moves_read r.moves n (s + 5) few k.near k.leads (has_tail b (s + 4) (s + 5) c body (omega arith) h4) in
      let t : tick_of (pair b (s + 2)) ≡ r.tick = ap tick_of e2 ∙ tick_forth r.tick (λ d p. omega (arith, k.passes d p)) in
      let mv : move_records b (byte b (s + 4)) (s + 5) ≡ r.moves = ap (λ j. move_records b j (s + 5)) e4 ∙ ms.0 in
      let same : state_record b s ≡ r = state_same (tick_of (pair b (s + 2))) r.tick (move_records b (byte b (s + 4)) (s + 5)) r.moves t mv in
      let end : after b s ≡ s + length (state_bytes r) = omega (arith, state_length r) in
      let mf : moves_fault b n (byte b (s + 4)) (s + 5) ≡ None = ap (λ j. moves_fault b n j (s + 5)) e4 ∙ ms.1 in (
        same,
        fine_state b n e s (record {
          length_in = omega (arith, state_length r);
          three = omega arith;
          inside = omega arith;
          right = omega arith;
          tick = ap (λ x. eqb x no_tick || ltb x n) e2 ∙ tick_fits r.tick n k.passes;
          few = omega (arith, k.few);
          moves = mf;
          time = timed_from s (ap (λ (z : StateRecord). is_some z.tick) same ∙ k.timed ∙ ap (λ (z : StateRecord). not (marked z.moves internal)) (sym same));
        }),
        end,
      )

  states_read : (rs : List StateRecord) (n e s : ℕ) → n ≤ most_table_states → ((r : StateRecord) → r ∈ rs → StateKept n r) → Has b s (each state_bytes rs) → s + length (each state_bytes rs) ≡ e → (map (state_record b) (offsets b (length rs) s) ≡ rs) × (states_fault b n e (length rs) s ≡ None)
  states_read [] n e s few k h l = (refl, none_le e s (LeftOver s) (omega arith))
  states_read (r ∷ rs) n e s few k h l =
      let a = length-append (state_bytes r) (each state_bytes rs) in
      let one = state_read r n e s few (k r (inl refl)) (has_left b s (state_bytes r) (each state_bytes rs) h) (omega arith) in
      let rest = states_read rs n e (after b s) few (λ x i. k x (inr i)) (has_right b s (after b s) (state_bytes r) (each state_bytes rs) one.2 h) (omega (arith, one.2)) in (
        ap (λ (z : StateRecord). z ∷ map (state_record b) (offsets b (length rs) (after b s))) one.0 ∙ ap (λ (zs : List StateRecord). r ∷ zs) rest.0,
        then_i (state_fault b n e s) (states_fault b n e (length rs) (after b s)) one.1 rest.1,
      )

  module_same : (x y : ℕ) (rs qs : List StateRecord) → x ≡ y → rs ≡ qs → ◌≡◌ {A = ModuleRecord} (record { start = x; states = rs }) (record { start = y; states = qs })
  module_same x y rs qs p q = cc

  module_read : (sh : ModuleRecord) (m : ℕ) → ModuleKept sh → length (module_rest sh) < two_byte_end → Has b m (module_bytes sh) → m + length (module_bytes sh) ≤ length b → (module_record b m ≡ sh) × (module_fault b m ≡ None) × (after b m ≡ m + length (module_bytes sh))
  module_read sh m k short h l =
      let n = length sh.states in
      let rest = module_rest sh in
      let body = each state_bytes sh.states in
      let e0 : pair b m ≡ length rest = has_pair b m (length rest) (has_left b m (two (length rest)) rest h) in
      let h2 = has_right b m (m + 2) (two (length rest)) rest (omega arith) h in
      let e2 : codes_at b m ≡ n = has_pair b (m + 2) n (has_left b (m + 2) (two n) (two sh.start ++ body) h2) in
      let h4 = has_right b (m + 2) (m + 4) (two n) (two sh.start ++ body) (omega arith) h2 in
      let e4 : pair b (m + 4) ≡ sh.start = has_pair b (m + 4) sh.start (has_left b (m + 4) (two sh.start) body h4) in
      let h6 = has_right b (m + 4) (m + 6) (two sh.start) body (omega arith) h4 in
      let end : after b m ≡ m + length (module_bytes sh) = omega arith in
      let rs = states_read sh.states n (after b m) (m + 6) k.few_states k.each_state h6 (omega arith) in
      let same : module_record b m ≡ sh = module_same (pair b (m + 4)) sh.start (map (state_record b) (offsets b (codes_at b m) (m + 6))) sh.states e4 (ap (λ j. map (state_record b) (offsets b j (m + 6))) e2 ∙ rs.0) in
      let rf : states_fault b (codes_at b m) (after b m) (codes_at b m) (m + 6) ≡ None = ap (λ j. states_fault b j (after b m) j (m + 6)) e2 ∙ rs.1 in (
        same,
        fine_module b m (record {
          length_in = omega arith;
          inside = omega arith;
          count_in = omega arith;
          some = omega (arith, k.some_state);
          few = omega (arith, k.few_states);
          start_in = omega arith;
          starts = omega (arith, k.starts);
          states = rf;
        }),
        end,
      )

  modules_read : (ss : List ModuleRecord) (m : ℕ) → ((s : ModuleRecord) → s ∈ ss → ModuleKept s) → ((s : ModuleRecord) → s ∈ ss → length (module_rest s) < two_byte_end) → Has b m (each module_bytes ss) → m + length (each module_bytes ss) ≡ length b → (map (module_record b) (offsets b (length ss) m) ≡ ss) × (modules_fault b (length ss) m ≡ None)
  modules_read [] m k short h l = (refl, none_le (length b) m (LeftOver m) (omega arith))
  modules_read (s ∷ ss) m k short h l =
      let a = length-append (module_bytes s) (each module_bytes ss) in
      let one = module_read s m (k s (inl refl)) (short s (inl refl)) (has_left b m (module_bytes s) (each module_bytes ss) h) (omega arith) in
      let rest = modules_read ss (after b m) (λ x i. k x (inr i)) (λ x i. short x (inr i)) (has_right b m (after b m) (module_bytes s) (each module_bytes ss) one.2 h) (omega (arith, one.2)) in (
        ap (λ (z : ModuleRecord). z ∷ map (module_record b) (offsets b (length ss) (after b m))) one.0 ∙ ap (λ (zs : List ModuleRecord). s ∷ zs) rest.0,
        then_i (module_fault b m) (modules_fault b (length ss) (after b m)) one.1 rest.1,
      )

each_kept : (ss : List ModuleRecord) → Carried ss → (s : ModuleRecord) → s ∈ ss → ModuleKept s
each_kept ss h s i =
    let c = at_place meant_module absent ss s i in
    let w = h.writable s i in
    sound_kept s (subst Sound c.2 (h.lawful.sound c.0 c.1)) w.few_states w.few_moves

pub forth : (ss : List ModuleRecord) (b : List ℕ) → TableOf ss b → (fault b ≡ None) × (module_records b ≡ ss)
forth ss b h =
    let n = length ss in
    let body = each module_bytes ss in
    let w = whole_has b (encoded ss) h.written in
    let eq : length b ≡ length (encoded ss) = ap length h.written in
    let len : length b ≡ 3 + length body = omega arith in
    let e0 : byte b 0 ≡ 1 = has_head b 0 1 (two n ++ body) w in
    let h1 = has_tail b 0 1 1 (two n ++ body) (omega arith) w in
    let e1 : pair b 1 ≡ n = has_pair b 1 n (has_left b 1 (two n) body h1) in
    let r = modules_read b ss 3 (each_kept ss h.carried) (λ s i. (h.carried.writable s i).short) (has_right b 1 3 (two n) body (omega arith) h1) (omega arith) in (
      fine_table b (record { version = e0; long = omega arith; few = omega (arith, h.carried.few); all_modules = ap (λ j. modules_fault b j 3) e1 ∙ r.1 }),
      ap (λ j. map (module_record b) (offsets b j 3)) e1 ∙ r.0,
    )
