-- What is printed of swaps that are tried in a line, byte by byte. Assumes nothing.
use Rattle.std.specs.Prelude.{ℕ, zero, suc, min, List, [], ◌∷◌, map, length, Some, None, Ok, Err, codes as ascii, decimal, Option, Result}
use Rattle.action.specs.Lists.{each, ◌⧺◌}
use Rattle.renaming.specs.Renaming.{each_to_itself}
use Rattle.catalogue.specs.Catalogue.{Catalogue}
use Rattle.line_rules.specs.declared.DrawFault.{DrawFault}
use Rattle.line_rules.specs.declared.SwapFault.{SwapFault}
use Rattle.line_rules.specs.declared.SwapFault.TheVariants.{UnknownSlot, Compare, Slower}
use Rattle.line_rules.specs.Line.{Slot, Line, most_slots}
use Rattle.line_rules.specs.Drawing.{draw_number, draw_fault, planned}
use Rattle.line_rules.specs.Swapping.{Swap, asked, swap_number, swap_answer, swapped}

-- n numbers, from k on
abbrev pub counting : (k n : ℕ) → List ℕ
counting k zero = []
counting k (suc n) = k ∷ counting (suc k) n

-- a module, unrenamed
abbrev pub plain : ℕ → Slot
plain m = record { holds = m; wiring = each_to_itself }

-- the first modules of a catalogue, as many as a line may have slots, each in the slot with its number
abbrev pub first_slots : Catalogue → List Slot
first_slots ms = map plain (counting 0 (min (length ms) most_slots))

-- the swaps of a slot: each of so many modules, with a table of so many rows; then those of each of so many slots
abbrev pub slot_trials : (rows modules slot : ℕ) → List Swap
slot_trials rows modules i = map (λ m. asked i m rows) (counting 0 modules)

abbrev pub trials : (rows modules slots : ℕ) → List Swap
trials rows modules slots = each (slot_trials rows modules) (counting 0 slots)

-- a rank is told with the refusal that has one; it ends a line
abbrev pub rank_text : SwapFault → List ℕ
rank_text UnknownSlot = ascii "\n"
rank_text (Compare e) = ascii "\n"
rank_text (Slower rank) = ascii " " ⧺ decimal rank ⧺ ascii "\n"

-- ok, or the number of the refusal; it ends a line
abbrev pub outcome_text : Result ℕ SwapFault → List ℕ
outcome_text (Ok n) = ascii "ok\n"
outcome_text (Err e) = decimal (swap_number e) ⧺ rank_text e

-- slot module ok, or slot module number
abbrev pub trial_line : (slot new : ℕ) → Result ℕ SwapFault → List ℕ
trial_line i m r = decimal i ⧺ ascii " " ⧺ decimal m ⧺ ascii " " ⧺ outcome_text r

-- a line for each swap, tried on the line that the swaps before it leave
abbrev pub told : Catalogue → Line → List Swap → List ℕ
told ms l [] = []
told ms l (w ∷ ws) = trial_line w.slot w.new (swap_answer ms l w) ⧺ told ms (swapped ms l w) ws

-- the rows of the table that the swaps are tried with
abbrev pub trial_rows : ℕ
trial_rows = 4096

-- a refused draw; or the swaps, for each slot, then each module
abbrev pub draw_line : ℕ → List ℕ
draw_line n = ascii "draw " ⧺ decimal n ⧺ ascii "\n"

abbrev pub drawn_lines : Catalogue → Option DrawFault → List ℕ
drawn_lines ms (Some e) = draw_line (draw_number e)
drawn_lines ms None = told ms (planned (first_slots ms) []) (trials trial_rows (length ms) (length (first_slots ms)))

-- The line of the first modules, with nothing hidden, and the swaps that are tried in it.
unfoldable pub swap_lines : Catalogue → List ℕ
swap_lines ms = drawn_lines ms (draw_fault ms (first_slots ms) [])
