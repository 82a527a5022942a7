-- What a swap answers and leaves, case by case. Assumes nothing.
use Rattle.std.proofs.Common.{◌≡◌, ℕ, zero, suc, ◌≤◌, Bool, true, false, ltb, List, [], ◌∷◌, map, length, take, set, Some, None, inl, inr, Ok, Err, Result, sym, refl, ap, ◌∙◌, subst, arith}
use lib.ListN.{length-map}
use Rattle.std.specs.List.{slice_get}
use Rattle.std.proofs.lemmas.List.{get_or-map, map-set}
use Rattle.std.proofs.lemmas.Option.{slice_get_cases, slice_get_within, get_or_from_slice_get}
use Rattle.std.proofs.lemmas.Bool.{lt-ltb, le-ltb}
use Rattle.catalogue.specs.Catalogue.{Catalogue, Lawful}
use Rattle.pair_table.specs.declared.PairRow.{PairRow}
use Rattle.pair_table.specs.declared.Compared.{Compared}
use Rattle.pair_table.specs.declared.CompareFault.{CompareFault}
use Rattle.pair_table.specs.Tables.{answer, table_after}
use Rattle.line_rules.specs.declared.SwapFault.{SwapFault}
use Rattle.line_rules.specs.declared.SwapFault.TheVariants.{UnknownSlot, Compare, Slower}
use Rattle.line_rules.specs.Line as rules
use Rattle.line_rules.specs.Swapping.{Swap, asked, by_rank, judged, swap_answer, swap_table, put, left_by, swapped, NoSwapSlows}
use Rattle.line_rules.proofs.Histories.{no_swap_slows}
use Rattle.line.specs.declared.lines.Slot.{Slot}
use Rattle.line.specs.declared.lines.Line.{Line}
use Rattle.line.specs.Meaning.{slot_of, in_use, line_of}

set_take : {A : Type 0} (n : ℕ) (xs : List A) (i : ℕ) (v : A) → take n (set xs i v) ≡ set (take n xs) i v
set_take zero [] i v = refl
set_take zero (x ∷ xs) zero v = refl
set_take zero (x ∷ xs) (suc i) v = refl
set_take (suc n) [] i v = refl
set_take (suc n) (x ∷ xs) zero v = refl
set_take (suc n) (x ∷ xs) (suc i) v = ap (λ l. x ∷ l) (set_take n xs i v)

module _ (ms : Catalogue) (lawful : Lawful ms) (l : Line) (i new : ℕ) (table : List PairRow) where
  abbrev w : Swap
  w = asked i new (length table)

  -- all that the contract says of an answer, the line and the table that are left
  pub record Leaves (r : Result ℕ SwapFault) (now : rules.Line) (rows : List PairRow) : Type 0 where
    pub answer_is : r ≡ swap_answer ms (line_of l) w
    pub line_is : now ≡ swapped ms (line_of l) w
    pub table_is : rows ≡ swap_table ms (line_of l) i new table
    pub promise : NoSwapSlows ms (line_of l) now

  leaves : (r : Result ℕ SwapFault) (now : rules.Line) (rows : List PairRow) → r ≡ swap_answer ms (line_of l) w → now ≡ left_by (line_of l) w r → rows ≡ swap_table ms (line_of l) i new table → Leaves r now rows
  leaves r now rows a n t =
      let is : now ≡ swapped ms (line_of l) w = n ∙ ap (left_by (line_of l) w) a in
      record { answer_is = a; line_is = is; table_is = t; promise = subst (NoSwapSlows ms (line_of l)) (sym is) (no_swap_slows ms lawful (line_of l) w) }

  pub no_such_slot : None ≡ slice_get (in_use l) i → Leaves (Err UnknownSlot) (line_of l) table
  unfolding swap_answer swap_table
  no_such_slot none =
      let past : length (in_use l) ≤ i = elim (slice_get_cases (in_use l) i).1 [ inl y ↦ absurd (cc (none, y.2)) | inr y ↦ y.0 ] in
      let e : ltb i (length (line_of l).slots) ≡ false = le-ltb i (length (line_of l).slots) (omega (arith, length-map (in_use l) slot_of)) in
      leaves (Err UnknownSlot) (line_of l) table
      (sym (ap {B = Result ℕ SwapFault} (λ (b : Bool). elim b [ true ↦ judged (answer ms new (rules.slot (line_of l) i).holds (length table)) | false ↦ Err UnknownSlot ]) e)) refl
      (sym (ap {B = List PairRow} (λ (b : Bool). elim b [ true ↦ table_after ms new (rules.slot (line_of l) i).holds table | false ↦ table ]) e))

  module _ (was : Slot) (found : Some was ≡ slice_get (in_use l) i) where
    is_slot : rules.slot (line_of l) i ≡ slot_of was
    is_slot = get_or-map slot_of (in_use l) i was rules.no_slot (slice_get_within (in_use l) i was (sym found)) ∙ ap slot_of (get_or_from_slice_get (in_use l) i was was (sym found))

    here : ltb i (length (line_of l).slots) ≡ true
    here = lt-ltb i (length (line_of l).slots) (omega (arith, length-map (in_use l) slot_of, slice_get_within (in_use l) i was (sym found)))

    answered : swap_answer ms (line_of l) w ≡ judged (answer ms new was.holds (length table))
    unfolding swap_answer
    answered =
        ap {B = Result ℕ SwapFault} (λ (b : Bool). elim b [ true ↦ judged (answer ms new (rules.slot (line_of l) i).holds (length table)) | false ↦ Err UnknownSlot ]) here
        ∙ ap (λ (s : rules.Slot). judged (answer ms new s.holds (length table))) is_slot

    filled : (rows : List PairRow) → rows ≡ table_after ms new was.holds table → rows ≡ swap_table ms (line_of l) i new table
    unfolding swap_table
    filled rows e = e ∙ sym (
        ap {B = List PairRow} (λ (b : Bool). elim b [ true ↦ table_after ms new (rules.slot (line_of l) i).holds table | false ↦ table ]) here
        ∙ ap (λ (s : rules.Slot). table_after ms new s.holds table) is_slot)

    pub not_compared : (e : CompareFault) (rows : List PairRow) → Err e ≡ answer ms new was.holds (length table) → rows ≡ table_after ms new was.holds table → Leaves (Err (Compare e)) (line_of l) rows
    not_compared e rows a t = leaves (Err (Compare e)) (line_of l) rows (ap judged a ∙ sym answered) refl (filled rows t)

    module _ (v : Compared) (rows : List PairRow) (a : Ok v ≡ answer ms new was.holds (length table)) (t : rows ≡ table_after ms new was.holds table) where
      ranked : by_rank v.pairs v.rank ≡ swap_answer ms (line_of l) w
      ranked = ap judged a ∙ sym answered

      pub slower : (v.rank ≡ 0 → ⊥) → Leaves (Err (Slower v.rank)) (line_of l) rows
      slower d = leaves (Err (Slower v.rank)) (line_of l) rows (by v.rank d ∙ ranked) refl (filled rows t)
        where
          by : (r : ℕ) → (r ≡ 0 → ⊥) → ◌≡◌ {A = Result ℕ SwapFault} (Err (Slower r)) (by_rank v.pairs r)
          by zero n = absurd (n refl)
          by (suc r) n = refl

      abbrev fitted : Slot
      fitted = record { holds = new; renaming = was.renaming }

      pub accepted : v.rank ≡ 0 → Leaves (Ok v.pairs) (record { slots = map slot_of (take l.count (set l.slots i fitted)); hidden = l.hidden }) rows
      unfolding put
      accepted z =
          leaves (Ok v.pairs) (record { slots = map slot_of (take l.count (set l.slots i fitted)); hidden = l.hidden }) rows
          (ap (by_rank v.pairs) (sym z) ∙ ranked)
          (ap {B = rules.Line} (λ (xs : List rules.Slot). record { slots = xs; hidden = l.hidden })
          (ap (map slot_of) (set_take l.count l.slots i fitted) ∙ map-set slot_of (take l.count l.slots) i fitted
          ∙ ap (λ (s : rules.Slot). set (line_of l).slots i (record { holds = new; wiring = s.wiring })) (sym is_slot)))
          (filled rows t)
