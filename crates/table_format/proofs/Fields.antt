-- The fields of a state, by what the code reads of them. Assumes nothing.
use Rattle.std.proofs.Common.{◌≡◌, ℕ, ◌+◌, ◌<◌, ◌≤◌, Bool, true, false, not, ◌||◌, eqb, ltb, leb, List, map, is_some, Some, None, Option, sym, refl, ap, ◌∙◌}
use Rattle.std.proofs.lemmas.Bool.{lt-ltb, leb-false, lt-leb, or_left, or_right, not-true, not-false}
use Rattle.std.specs.Bool.{beq}
use Rattle.std.specs.List.{list_any}
use Rattle.action.specs.Action.{internal}
use Rattle.table_format.specs.declared.fault.TableFault.{TableFault}
use Rattle.table_format.specs.declared.fault.TableFault.TheVariants.{TooManyMoves, NotAState, WrongTick}
use Rattle.table_format.specs.Numbers.{byte, pair}
use Rattle.table_format.specs.Encoding.{no_tick}
use Rattle.table_format.specs.Records.{MoveRecord, marked}
use Rattle.table_format.specs.Reading.{entries, entry_record, marks_internal, move_records, tick_of}
use Rattle.table_format.specs.Taking.{◌▹◌, try, most_table_moves, moves_fault, timed, leads_outside, state_fields_fault}
use Rattle.table_format.proofs.Entries.{entries_records, any_marked}
use Rattle.table_format.proofs.Faults.{none_then, some_then, none_try, try_some, none_le}

-- the fields of a state, by what was read of them
module _ (b : List ℕ) (n s : ℕ) where
  abbrev tick_at : ℕ
  tick_at = pair b (s + 2)

  abbrev count_at : ℕ
  count_at = byte b (s + 4)

  abbrev ms : List MoveRecord
  ms = move_records b count_at (s + 5)

  abbrev f4 : Option TableFault
  f4 = try (eqb tick_at no_tick || ltb tick_at n) (NotAState (s + 2))

  abbrev f5 : Option TableFault
  f5 = try (leb count_at most_table_moves) (TooManyMoves (s + 4))

  abbrev f6 : Option TableFault
  f6 = moves_fault b n count_at (s + 5)

  abbrev f7 : Option TableFault
  f7 = try (timed b s) (WrongTick (s + 2))

  tick_inside : (o : Option ℕ) → o ≡ tick_of tick_at → leads_outside o n ≡ false → f4 ≡ None
  tick_inside o p h = go (eqb tick_at no_tick) refl
    where
      go : (t : Bool) → eqb tick_at no_tick ≡ t → f4 ≡ None
      go true e = none_try (eqb tick_at no_tick || ltb tick_at n) (NotAState (s + 2)) (or_left (eqb tick_at no_tick) (ltb tick_at n) e)
      go false e =
          let q : o ≡ Some tick_at = p ∙ ap (λ (t : Bool). elim t [ true ↦ None | false ↦ Some tick_at ]) e in
          let r : leb n tick_at ≡ false = ap (λ (z : Option ℕ). leads_outside z n) (sym q) ∙ h in
          none_try (eqb tick_at no_tick || ltb tick_at n) (NotAState (s + 2)) (or_right (eqb tick_at no_tick) (ltb tick_at n) (lt-ltb tick_at n (leb-false n tick_at r)))

  module _ (o : Option ℕ) (p : o ≡ tick_of tick_at) (h : leads_outside o n ≡ false) where
    pub count_stops : most_table_moves < count_at → state_fields_fault b n s ≡ Some (TooManyMoves (s + 4))
    count_stops l = none_then f4 (f5 ▹ f6 ▹ f7) (tick_inside o p h) ∙ some_then f5 (f6 ▹ f7) (TooManyMoves (s + 4)) (try_some (leb count_at most_table_moves) (TooManyMoves (s + 4)) (lt-leb count_at most_table_moves l))

    pub fields_rest : count_at ≤ most_table_moves → (g : Option TableFault) → (f6 ▹ f7) ≡ g → state_fields_fault b n s ≡ g
    fields_rest l g e = none_then f4 (f5 ▹ f6 ▹ f7) (tick_inside o p h) ∙ none_then f5 (f6 ▹ f7) (none_le count_at most_table_moves (TooManyMoves (s + 4)) l) ∙ e

    pub moves_stop_fields : count_at ≤ most_table_moves → (f : TableFault) → f6 ≡ Some f → state_fields_fault b n s ≡ Some f
    moves_stop_fields l f e = fields_rest l (Some f) (some_then f6 f7 f e)

  timed_by : (o : Option ℕ) (es : List (List ℕ)) (i : Bool) → o ≡ tick_of tick_at → es ≡ entries b count_at (s + 5) → i ≡ list_any marks_internal es → beq (is_some o) i ≡ not (timed b s)
  timed_by o es i p q e =
      let m : i ≡ marked ms internal = e ∙ any_marked es ∙ ap (λ (xs : List (List ℕ)). marked (map entry_record xs) internal) q ∙ ap (λ (xs : List MoveRecord). marked xs internal) (entries_records b count_at (s + 5)) in
      ap (λ x. beq (is_some x) i) p ∙ ap (beq (is_some (tick_of tick_at))) m ∙ go (eqb tick_at no_tick) (marked ms internal)
    where
      go : (t u : Bool) → beq (is_some {T = ℕ} (elim t [ true ↦ None | false ↦ Some tick_at ])) u ≡ not (elim t [ true ↦ u | false ↦ not u ])
      go true true = refl
      go true false = refl
      go false true = refl
      go false false = refl

  module _ (o : Option ℕ) (p : o ≡ tick_of tick_at) (h : leads_outside o n ≡ false) (l : count_at ≤ most_table_moves) (m : f6 ≡ None) (es : List (List ℕ)) (i : Bool) (q : es ≡ entries b count_at (s + 5)) (e : i ≡ list_any marks_internal es) where
    pub time_stops : beq (is_some o) i ≡ true → state_fields_fault b n s ≡ Some (WrongTick (s + 2))
    time_stops t = fields_rest o p h l _ (none_then f6 f7 m ∙ try_some (timed b s) (WrongTick (s + 2)) (not-true (timed b s) (sym (timed_by o es i p q e) ∙ t)))

    pub fields_pass : beq (is_some o) i ≡ false → state_fields_fault b n s ≡ None
    fields_pass t = fields_rest o p h l _ (none_then f6 f7 m ∙ none_try (timed b s) (WrongTick (s + 2)) (not-false (timed b s) (sym (timed_by o es i p q e) ∙ t)))
