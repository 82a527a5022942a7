-- Swaps, histories of swaps, and what no history can do to a line. Assumes nothing.
use Rattle.std.specs.Prelude.{◌≡◌, ℕ, zero, suc, ◌<◌, true, false, T, ◌⊎◌, ◌↔◌, List, [], ◌∷◌, length, Ok, Err, Result, nat_lt, slice_set}
use Rattle.action.specs.Action.{internal}
use Rattle.catalogue.specs.Catalogue.{Catalogue, module_in}
use Rattle.catalogue.specs.Systems.{System, running, Tied}
use Rattle.pair_table.specs.declared.PairRow.{PairRow}
use Rattle.pair_table.specs.declared.Compared.{Compared}
use Rattle.pair_table.specs.declared.CompareFault.{CompareFault}
use Rattle.pair_table.specs.Tables.{refusal_number, suffices, answer, table_after}
use Rattle.line_rules.specs.declared.SwapFault.{SwapFault}
use Rattle.line_rules.specs.declared.SwapFault.TheVariants.{UnknownSlot, Compare, Slower}
use Rattle.line_rules.specs.Line.{Line, slot, inside, Drawn, line_running}

-- the number that a refusal is told by
abbrev pub swap_number : SwapFault → ℕ
swap_number UnknownSlot = 21
swap_number (Compare e) = refusal_number e
swap_number (Slower rank) = 25

-- A swap asks for a module to be put into a slot, with a pair table of so many rows to compare in.
pub record Swap : Type 0 where
  pub slot : ℕ
  pub new : ℕ
  pub rows : ℕ

abbrev pub asked : (slot new rows : ℕ) → Swap
asked i m n = record { slot = i; new = m; rows = n }

-- The answer: the pair count where the new module has rank 0 against the one in the slot.
abbrev pub by_rank : (pairs rank : ℕ) → Result ℕ SwapFault
by_rank n zero = Ok n
by_rank n (suc k) = Err (Slower (suc k))

abbrev pub judged : Result Compared CompareFault → Result ℕ SwapFault
judged (Ok v) = by_rank v.pairs v.rank
judged (Err e) = Err (Compare e)

unfoldable pub swap_answer : Catalogue → Line → Swap → Result ℕ SwapFault
swap_answer ms l w =
    elim (nat_lt w.slot (length l.slots)) [ true ↦ judged (answer ms w.new (slot l w.slot).holds w.rows) | false ↦ Err UnknownSlot ]

-- the pair table at exit
unfoldable pub swap_table : Catalogue → Line → (slot new : ℕ) → List PairRow → List PairRow
swap_table ms l i m table = elim (nat_lt i (length l.slots)) [ true ↦ table_after ms m (slot l i).holds table | false ↦ table ]

abbrev pub Refused : Result ℕ SwapFault → Type 0
Refused (Ok n) = ⊥
Refused (Err e) = Unit {0}

-- The line with module m in slot i, and all else as it was.
unfoldable pub put : Line → ℕ → ℕ → Line
put l i m = record { slots = slice_set l.slots i (record { holds = m; wiring = (slot l i).wiring }); hidden = l.hidden }

-- An accepted swap puts the module that it names into the slot that it names, a refused one alters nothing.
abbrev pub left_by : Line → Swap → Result ℕ SwapFault → Line
left_by l w (Ok n) = put l w.slot w.new
left_by l w (Err e) = l

abbrev pub swapped : Catalogue → Line → Swap → Line
swapped ms l w = left_by l w (swap_answer ms l w)

-- The line after a history, the earliest swap first, each tried on the line that the one before left.
unfoldable pub after : Catalogue → Line → List Swap → Line
after ms l [] = l
after ms l (w ∷ ws) = after ms (swapped ms l w) ws

-- In each state a tick or an internal event can take place.
abbrev pub NeverStands : {S : Type 0} → System S → Type 0
NeverStands {S} A = (s : S) → A.State s → ((t : S) × A.Ticks s t) ⊎ ((t : S) × A.Moves s internal t)

-- What a planner is promised of a line as it now is, beside the line as drawn.
pub record Promised (ms : Catalogue) (drawn now : Line) : Type 0 where
  -- the line does what it did as drawn, and is never slower
  pub no_slower : Tied (line_running ms now) (line_running ms drawn)
  -- a next swap that names a known slot and a known module, with a pair table that suffices, is refused exactly when
  -- the new module is slower than the one in place, or does something else
  pub exact : (w : Swap) → w.slot < length now.slots → w.new < length ms → T (suffices (module_in ms w.new) (inside ms now w.slot) w.rows) → Refused (swap_answer ms now w) ↔ (¬ Tied (running (module_in ms w.new)) (running (inside ms now w.slot)))
  -- the line never comes to a stand: in each state a tick or an internal event can take place
  pub never_stands : NeverStands (line_running ms now)

-- Of a line as drawn: whatever swaps are tried on it, however many, and however large their tables, the promise is kept.
abbrev pub NoHistorySlows : Catalogue → (drawn : Line) → Type 0
NoHistorySlows ms drawn = (history : List Swap) → Promised ms drawn (after ms drawn history)

-- Of a swap, by the line before it and the line behind it: whatever line was drawn, and whatever swaps were tried on it
-- since, if they led to the line before the swap, then the promise is kept by the line behind it.
abbrev pub NoSwapSlows : Catalogue → (before behind : Line) → Type 0
NoSwapSlows ms before behind = (drawn : Line) → Drawn ms drawn → (history : List Swap) → after ms drawn history ≡ before → Promised ms drawn behind
