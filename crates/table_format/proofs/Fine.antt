-- What a part of a table without a fault says, and the other way round; and that a fault lies in the bytes, or at their end. Assumes nothing.
use Rattle.std.proofs.Common.{◌≡◌, ℕ, zero, suc, ◌+◌, ◌*◌, ◌<◌, ◌≤◌, Bool, true, false, ◌&&◌, ◌||◌, eqb, ltb, leb, List, [], ◌∷◌, length, nat_abs, is_some, Some, None, Option, refl, ◌∙◌, arith}
use Rattle.std.proofs.lemmas.Bool.{leb-true, le-leb, lt-leb, le-ltb, and_parts, and_from}
use Rattle.action.specs.Action.{is_action, last_port}
use Rattle.table_format.specs.declared.fault.TableFault.{TableFault}
use Rattle.table_format.specs.declared.fault.TableFault.TheVariants.{NotVersionOne, PastEnd, WrongStateLength, LeftOver, TooManyModules, WrongStateCount, TooManyMoves, NotAnAction, NotAMark, NotAState, WrongTick}
use Rattle.table_format.specs.Numbers.{byte, pair, byte_action}
use Rattle.table_format.specs.Encoding.{no_tick}
use Rattle.table_format.specs.Reading.{after, codes_at}
use Rattle.table_format.specs.Taking.{try, ◌▹◌, number, place, move_fault, moves_fault, timed, state_fault, states_fault, module_fault, modules_fault, fault, most_table_modules, most_table_states, most_table_moves}
use Rattle.table_format.proofs.Faults.{then_l, then_r, then_i, none_then, some_then, try_none, try_some, none_try, le_none, none_le, lt_none, none_lt, eq_none, none_eq, Lies, lies_try, lies_then, lies_at}

pub record MoveFine (b : List ℕ) (n k : ℕ) : Type 0 where
  pub near : nat_abs (byte_action (byte b k)) ≤ last_port
  pub bit : byte b (k + 1) ≤ 1
  pub leads : pair b (k + 2) < n

pub record StateFine (b : List ℕ) (n e s : ℕ) : Type 0 where
  pub length_in : s + 2 ≤ e
  pub three : 3 ≤ pair b s
  pub inside : after b s ≤ e
  pub right : pair b s ≡ 3 + 4 * byte b (s + 4)
  pub tick : (eqb (pair b (s + 2)) no_tick || ltb (pair b (s + 2)) n) ≡ true
  pub few : byte b (s + 4) ≤ most_table_moves
  pub moves : moves_fault b n (byte b (s + 4)) (s + 5) ≡ None
  pub time : timed b s ≡ true

pub record ModuleFine (b : List ℕ) (m : ℕ) : Type 0 where
  pub length_in : m + 2 ≤ length b
  pub inside : after b m ≤ length b
  pub count_in : m + 4 ≤ after b m
  pub some : 1 ≤ codes_at b m
  pub few : codes_at b m ≤ most_table_states
  pub start_in : m + 6 ≤ after b m
  pub starts : pair b (m + 4) < codes_at b m
  pub states : states_fault b (codes_at b m) (after b m) (codes_at b m) (m + 6) ≡ None

pub record Fine (b : List ℕ) : Type 0 where
  pub version : byte b 0 ≡ 1
  pub long : 3 ≤ length b
  pub few : pair b 1 ≤ most_table_modules
  pub all_modules : modules_fault b (pair b 1) 3 ≡ None

-- the tests of a move, in order
module _ (b : List ℕ) (n k : ℕ) where
  abbrev m1 : Option TableFault
  m1 = try (is_action (byte_action (byte b k))) (NotAnAction k)

  abbrev m2 : Option TableFault
  m2 = try (leb (byte b (k + 1)) 1) (NotAMark (k + 1))

  abbrev m3 : Option TableFault
  m3 = try (ltb (pair b (k + 2)) n) (NotAState (k + 2))

  pub move_fine : move_fault b n k ≡ None → MoveFine b n k
  move_fine h =
      let h2 = then_r m1 (m2 ▹ m3) h in
      record {
        near = le_none (nat_abs (byte_action (byte b k))) last_port (NotAnAction k) (then_l m1 (m2 ▹ m3) h);
        bit = le_none (byte b (k + 1)) 1 (NotAMark (k + 1)) (then_l m2 m3 h2);
        leads = lt_none (pair b (k + 2)) n (NotAState (k + 2)) (then_r m2 m3 h2);
      }

  pub fine_move : MoveFine b n k → move_fault b n k ≡ None
  fine_move f =
      then_i m1 (m2 ▹ m3) (none_le (nat_abs (byte_action (byte b k))) last_port (NotAnAction k) f.near)
      (then_i m2 m3 (none_le (byte b (k + 1)) 1 (NotAMark (k + 1)) f.bit)
      (none_lt (pair b (k + 2)) n (NotAState (k + 2)) f.leads))

  -- the first test that fails
  pub action_stops : is_action (byte_action (byte b k)) ≡ false → move_fault b n k ≡ Some (NotAnAction k)
  action_stops h = some_then m1 (m2 ▹ m3) (NotAnAction k) (try_some (is_action (byte_action (byte b k))) (NotAnAction k) h)

  pub mark_stops : is_action (byte_action (byte b k)) ≡ true → 1 < byte b (k + 1) → move_fault b n k ≡ Some (NotAMark (k + 1))
  mark_stops a h =
      none_then m1 (m2 ▹ m3) (none_try (is_action (byte_action (byte b k))) (NotAnAction k) a)
      ∙ some_then m2 m3 (NotAMark (k + 1)) (try_some (leb (byte b (k + 1)) 1) (NotAMark (k + 1)) (lt-leb (byte b (k + 1)) 1 h))

  pub state_stops : is_action (byte_action (byte b k)) ≡ true → byte b (k + 1) ≤ 1 → n ≤ pair b (k + 2) → move_fault b n k ≡ Some (NotAState (k + 2))
  state_stops a u h =
      none_then m1 (m2 ▹ m3) (none_try (is_action (byte_action (byte b k))) (NotAnAction k) a)
      ∙ none_then m2 m3 (none_le (byte b (k + 1)) 1 (NotAMark (k + 1)) u)
      ∙ try_some (ltb (pair b (k + 2)) n) (NotAState (k + 2)) (le-ltb (pair b (k + 2)) n h)

  pub fine_action : is_action (byte_action (byte b k)) ≡ true → byte b (k + 1) ≤ 1 → pair b (k + 2) < n → move_fault b n k ≡ None
  fine_action a u h = fine_move (record { near = leb-true (nat_abs (byte_action (byte b k))) last_port a; bit = u; leads = h })

  move_lies : (z : ℕ) → k + 4 ≤ z → Lies z (move_fault b n k)
  move_lies z l =
      lies_then z m1 (m2 ▹ m3) (lies_try z (is_action (byte_action (byte b k))) (NotAnAction k) refl (omega arith))
      (λ _. lies_then z m2 m3 (lies_try z (leb (byte b (k + 1)) 1) (NotAMark (k + 1)) refl (omega arith))
      (λ _. lies_try z (ltb (pair b (k + 2)) n) (NotAState (k + 2)) refl (omega arith)))

moves_lie : (b : List ℕ) (z n j k : ℕ) → k + 4 * j ≤ z → Lies z (moves_fault b n j k)
moves_lie b z n zero k l = tt
moves_lie b z n (suc j) k l =
    lies_then z (move_fault b n k) (moves_fault b n j (k + 4)) (move_lies b n k z (omega arith)) (λ _. moves_lie b z n j (k + 4) (omega arith))

-- the tests of a state
module _ (b : List ℕ) (n e s : ℕ) where
  abbrev s1 : Option TableFault
  s1 = try (leb (s + 2) e) (PastEnd s)

  abbrev long_enough : Bool
  long_enough = leb 3 (pair b s) && leb (after b s) e

  abbrev s2 : Option TableFault
  s2 = try long_enough (PastEnd s)

  abbrev s3 : Option TableFault
  s3 = try (eqb (pair b s) (3 + 4 * byte b (s + 4))) (WrongStateLength s)

  abbrev tick_fits : Bool
  tick_fits = eqb (pair b (s + 2)) no_tick || ltb (pair b (s + 2)) n

  abbrev s4 : Option TableFault
  s4 = try tick_fits (NotAState (s + 2))

  abbrev s5 : Option TableFault
  s5 = try (leb (byte b (s + 4)) most_table_moves) (TooManyMoves (s + 4))

  abbrev s6 : Option TableFault
  s6 = moves_fault b n (byte b (s + 4)) (s + 5)

  abbrev s7 : Option TableFault
  s7 = try (timed b s) (WrongTick (s + 2))

  length_fine : (s1 ▹ s2 ▹ s3) ≡ None → (s + 2 ≤ e) × (3 ≤ pair b s) × (after b s ≤ e) × (pair b s ≡ 3 + 4 * byte b (s + 4))
  length_fine h =
      let h2 = then_r s1 (s2 ▹ s3) h in
      let both = and_parts (leb 3 (pair b s)) (leb (after b s) e) (try_none long_enough (PastEnd s) (then_l s2 s3 h2)) in (
        le_none (s + 2) e (PastEnd s) (then_l s1 (s2 ▹ s3) h),
        leb-true 3 (pair b s) both.0,
        leb-true (after b s) e both.1,
        eq_none (pair b s) (3 + 4 * byte b (s + 4)) (WrongStateLength s) (then_r s2 s3 h2),
      )

  pub state_fine : state_fault b n e s ≡ None → StateFine b n e s
  unfolding state_fault
  state_fine h =
      let l = length_fine (then_l (s1 ▹ s2 ▹ s3) (s4 ▹ s5 ▹ s6 ▹ s7) h) in
      let h4 = then_r (s1 ▹ s2 ▹ s3) (s4 ▹ s5 ▹ s6 ▹ s7) h in
      let h5 = then_r s4 (s5 ▹ s6 ▹ s7) h4 in
      let h6 = then_r s5 (s6 ▹ s7) h5 in
      record {
        length_in = l.0;
        three = l.1;
        inside = l.2;
        right = l.3;
        tick = try_none tick_fits (NotAState (s + 2)) (then_l s4 (s5 ▹ s6 ▹ s7) h4);
        few = le_none (byte b (s + 4)) most_table_moves (TooManyMoves (s + 4)) (then_l s5 (s6 ▹ s7) h5);
        moves = then_l s6 s7 h6;
        time = try_none (timed b s) (WrongTick (s + 2)) (then_r s6 s7 h6);
      }

  pub fine_state : StateFine b n e s → state_fault b n e s ≡ None
  unfolding state_fault
  fine_state f =
      then_i (s1 ▹ s2 ▹ s3) (s4 ▹ s5 ▹ s6 ▹ s7)
      (then_i s1 (s2 ▹ s3) (none_le (s + 2) e (PastEnd s) f.length_in)
      (then_i s2 s3 (none_try long_enough (PastEnd s) (and_from (leb 3 (pair b s)) (leb (after b s) e) (le-leb 3 (pair b s) f.three) (le-leb (after b s) e f.inside)))
      (none_eq (pair b s) (3 + 4 * byte b (s + 4)) (WrongStateLength s) f.right)))
      (then_i s4 (s5 ▹ s6 ▹ s7) (none_try tick_fits (NotAState (s + 2)) f.tick)
      (then_i s5 (s6 ▹ s7) (none_le (byte b (s + 4)) most_table_moves (TooManyMoves (s + 4)) f.few)
      (then_i s6 s7 f.moves (none_try (timed b s) (WrongTick (s + 2)) f.time))))

  state_lies : (z : ℕ) → s ≤ e → e ≤ z → Lies z (state_fault b n e s)
  unfolding state_fault
  state_lies z l m =
      lies_then z (s1 ▹ s2 ▹ s3) (s4 ▹ s5 ▹ s6 ▹ s7)
      (lies_then z s1 (s2 ▹ s3) (lies_try z (leb (s + 2) e) (PastEnd s) refl (omega arith))
      (λ _. lies_then z s2 s3 (lies_try z long_enough (PastEnd s) refl (omega arith))
      (λ _. lies_try z (eqb (pair b s) (3 + 4 * byte b (s + 4))) (WrongStateLength s) refl (omega arith))))
      (λ p. (let f = length_fine p in
      lies_then z s4 (s5 ▹ s6 ▹ s7) (lies_try z tick_fits (NotAState (s + 2)) refl (omega (arith, f.1, f.2)))
      (λ _. lies_then z s5 (s6 ▹ s7) (lies_try z (leb (byte b (s + 4)) most_table_moves) (TooManyMoves (s + 4)) refl (omega (arith, f.1, f.2)))
      (λ _. lies_then z s6 s7 (moves_lie b z n (byte b (s + 4)) (s + 5) (omega (arith, f.2, f.3)))
      (λ _. lies_try z (timed b s) (WrongTick (s + 2)) refl (omega (arith, f.1, f.2)))))))

states_lie : (b : List ℕ) (z n e j s : ℕ) → s ≤ e → e ≤ z → Lies z (states_fault b n e j s)
states_lie b z n e zero s l m = lies_try z (leb e s) (LeftOver s) refl (omega arith)
states_lie b z n e (suc j) s l m =
    lies_then z (state_fault b n e s) (states_fault b n e j (after b s)) (state_lies b n e s z l m)
    (λ p. states_lie b z n e j (after b s) (state_fine b n e s p).inside m)

-- the tests of a module
module _ (b : List ℕ) (m : ℕ) where
  abbrev p1 : Option TableFault
  p1 = try (leb (m + 2) (length b)) (PastEnd m)

  abbrev p2 : Option TableFault
  p2 = try (leb (after b m) (length b)) (PastEnd m)

  abbrev p3 : Option TableFault
  p3 = try (leb (m + 4) (after b m)) (PastEnd (m + 2))

  abbrev count_fits : Bool
  count_fits = leb 1 (codes_at b m) && leb (codes_at b m) most_table_states

  abbrev p4 : Option TableFault
  p4 = try count_fits (WrongStateCount (m + 2))

  abbrev p5 : Option TableFault
  p5 = try (leb (m + 6) (after b m)) (PastEnd (m + 4))

  abbrev p6 : Option TableFault
  p6 = try (ltb (pair b (m + 4)) (codes_at b m)) (NotAState (m + 4))

  abbrev p7 : Option TableFault
  p7 = states_fault b (codes_at b m) (after b m) (codes_at b m) (m + 6)

  pub module_fine : module_fault b m ≡ None → ModuleFine b m
  unfolding module_fault
  module_fine h =
      let h1 = then_l (p1 ▹ p2) ((p3 ▹ p4 ▹ p5 ▹ p6) ▹ p7) h in
      let h2 = then_r (p1 ▹ p2) ((p3 ▹ p4 ▹ p5 ▹ p6) ▹ p7) h in
      let h3 = then_l (p3 ▹ p4 ▹ p5 ▹ p6) p7 h2 in
      let h4 = then_r p3 (p4 ▹ p5 ▹ p6) h3 in
      let h5 = then_r p4 (p5 ▹ p6) h4 in
      let both = and_parts (leb 1 (codes_at b m)) (leb (codes_at b m) most_table_states) (try_none count_fits (WrongStateCount (m + 2)) (then_l p4 (p5 ▹ p6) h4)) in
      record {
        length_in = le_none (m + 2) (length b) (PastEnd m) (then_l p1 p2 h1);
        inside = le_none (after b m) (length b) (PastEnd m) (then_r p1 p2 h1);
        count_in = le_none (m + 4) (after b m) (PastEnd (m + 2)) (then_l p3 (p4 ▹ p5 ▹ p6) h3);
        some = leb-true 1 (codes_at b m) both.0;
        few = leb-true (codes_at b m) most_table_states both.1;
        start_in = le_none (m + 6) (after b m) (PastEnd (m + 4)) (then_l p5 p6 h5);
        starts = lt_none (pair b (m + 4)) (codes_at b m) (NotAState (m + 4)) (then_r p5 p6 h5);
        states = then_r (p3 ▹ p4 ▹ p5 ▹ p6) p7 h2;
      }

  pub fine_module : ModuleFine b m → module_fault b m ≡ None
  unfolding module_fault
  fine_module f =
      then_i (p1 ▹ p2) ((p3 ▹ p4 ▹ p5 ▹ p6) ▹ p7)
      (then_i p1 p2 (none_le (m + 2) (length b) (PastEnd m) f.length_in) (none_le (after b m) (length b) (PastEnd m) f.inside))
      (then_i (p3 ▹ p4 ▹ p5 ▹ p6) p7
      (then_i p3 (p4 ▹ p5 ▹ p6) (none_le (m + 4) (after b m) (PastEnd (m + 2)) f.count_in)
      (then_i p4 (p5 ▹ p6) (none_try count_fits (WrongStateCount (m + 2)) (and_from (leb 1 (codes_at b m)) (leb (codes_at b m) most_table_states) (le-leb 1 (codes_at b m) f.some) (le-leb (codes_at b m) most_table_states f.few)))
      (then_i p5 p6 (none_le (m + 6) (after b m) (PastEnd (m + 4)) f.start_in) (none_lt (pair b (m + 4)) (codes_at b m) (NotAState (m + 4)) f.starts))))
      f.states)

  module_lies : m ≤ length b → Lies (length b) (module_fault b m)
  unfolding module_fault
  module_lies l =
      lies_then (length b) (p1 ▹ p2) ((p3 ▹ p4 ▹ p5 ▹ p6) ▹ p7)
      (lies_then (length b) p1 p2 (lies_try (length b) (leb (m + 2) (length b)) (PastEnd m) refl l) (λ _. lies_try (length b) (leb (after b m) (length b)) (PastEnd m) refl l))
      (λ h. (let q1 = le_none (m + 2) (length b) (PastEnd m) (then_l p1 p2 h) in
      let q2 = le_none (after b m) (length b) (PastEnd m) (then_r p1 p2 h) in
      lies_then (length b) (p3 ▹ p4 ▹ p5 ▹ p6) p7
      (lies_then (length b) p3 (p4 ▹ p5 ▹ p6) (lies_try (length b) (leb (m + 4) (after b m)) (PastEnd (m + 2)) refl (omega arith))
      (λ h3. (let q3 = le_none (m + 4) (after b m) (PastEnd (m + 2)) h3 in
      lies_then (length b) p4 (p5 ▹ p6) (lies_try (length b) count_fits (WrongStateCount (m + 2)) refl (omega arith))
      (λ _. lies_then (length b) p5 p6 (lies_try (length b) (leb (m + 6) (after b m)) (PastEnd (m + 4)) refl (omega arith))
      (λ _. lies_try (length b) (ltb (pair b (m + 4)) (codes_at b m)) (NotAState (m + 4)) refl (omega arith))))))
      (λ g. (let q5 = le_none (m + 6) (after b m) (PastEnd (m + 4)) (then_l p5 p6 (then_r p4 (p5 ▹ p6) (then_r p3 (p4 ▹ p5 ▹ p6) g))) in
      states_lie b (length b) (codes_at b m) (after b m) (codes_at b m) (m + 6) q5 q2))))

modules_lie : (b : List ℕ) (j m : ℕ) → m ≤ length b → Lies (length b) (modules_fault b j m)
modules_lie b zero m l = lies_try (length b) (leb (length b) m) (LeftOver m) refl l
modules_lie b (suc j) m l =
    lies_then (length b) (module_fault b m) (modules_fault b j (after b m)) (module_lies b m l)
    (λ h. modules_lie b j (after b m) (module_fine b m h).inside)

some_byte : (b : List ℕ) → byte b 0 ≡ 1 → 1 ≤ length b
some_byte [] e = absurd (omega arith)
some_byte (x ∷ xs) e = omega arith

-- the tests of the head
module _ (b : List ℕ) where
  abbrev h1 : Option TableFault
  h1 = try (eqb (byte b 0) 1) NotVersionOne

  abbrev h2 : Option TableFault
  h2 = try (leb 3 (length b)) (PastEnd 1)

  abbrev h3 : Option TableFault
  h3 = try (leb (pair b 1) most_table_modules) TooManyModules

  abbrev h4 : Option TableFault
  h4 = modules_fault b (pair b 1) 3

  pub fine : fault b ≡ None → Fine b
  unfolding fault
  fine h =
      let head = then_l (h1 ▹ h2 ▹ h3) h4 h in
      let more = then_r h1 (h2 ▹ h3) head in
      record {
        version = eq_none (byte b 0) 1 NotVersionOne (then_l h1 (h2 ▹ h3) head);
        long = le_none 3 (length b) (PastEnd 1) (then_l h2 h3 more);
        few = le_none (pair b 1) most_table_modules TooManyModules (then_r h2 h3 more);
        all_modules = then_r (h1 ▹ h2 ▹ h3) h4 h;
      }

  pub fine_table : Fine b → fault b ≡ None
  unfolding fault
  fine_table f =
      then_i (h1 ▹ h2 ▹ h3) h4
      (then_i h1 (h2 ▹ h3) (none_eq (byte b 0) 1 NotVersionOne f.version)
      (then_i h2 h3 (none_le 3 (length b) (PastEnd 1) f.long) (none_le (pair b 1) most_table_modules TooManyModules f.few)))
      f.all_modules

  pub within : (f : TableFault) → fault b ≡ Some f → (is_some (number f) ≡ true) × (place f ≤ length b)
  unfolding fault
  within f e =
      lies_at (length b) ((h1 ▹ h2 ▹ h3) ▹ h4) f
      (lies_then (length b) (h1 ▹ h2 ▹ h3) h4
      (lies_then (length b) h1 (h2 ▹ h3) (lies_try (length b) (eqb (byte b 0) 1) NotVersionOne refl (omega arith))
      (λ p. (let one = some_byte b (eq_none (byte b 0) 1 NotVersionOne p) in
      lies_then (length b) h2 h3 (lies_try (length b) (leb 3 (length b)) (PastEnd 1) refl one) (λ _. lies_try (length b) (leb (pair b 1) most_table_modules) TooManyModules refl one))))
      (λ p. modules_lie b (pair b 1) 3 (le_none 3 (length b) (PastEnd 1) (then_l h2 h3 (then_r h1 (h2 ▹ h3) p)))))
      e
