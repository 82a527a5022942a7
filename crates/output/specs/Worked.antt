-- One table of worked cases, from the text of a book to verdicts, through the definitions that the contracts cite. Assumes nothing.
use Rattle.std.specs.Prelude.{◌≡◌, ℕ, true, false, List, [], ◌∷◌, pos, negsuc, Some, None, Ok, Result, codes as ascii}
use Rattle.action.specs.Sets.{members}
use Rattle.catalogue.specs.Catalogue.{Catalogue, module_in, state_in, move}
use Rattle.rows.specs.declared.row.Place.{Place}
use Rattle.rows.specs.declared.row.Place.TheVariants.{Nil, Act, Wait, Sum, Name}
use Rattle.rows.specs.declared.row.ModuleRow.{ModuleRow}
use Rattle.rows.specs.Opening.{opened}
use Rattle.book_text.specs.Outcomes.{Outcome, outcome}
use Rattle.book_text.specs.Outcomes.Outcome.{turned_away, accepted}
use Rattle.pair_table.specs.declared.Compared.{Compared}
use Rattle.pair_table.specs.declared.CompareFault.{CompareFault}
use Rattle.pair_table.specs.Tables.{answer}
use Rattle.line_rules.specs.Line.{Line}
use Rattle.line_rules.specs.Drawing.{planned}
use Rattle.line_rules.specs.Time.{urgents, ticks}
use Rattle.line_rules.specs.Cases.{plain}
use Rattle.output.specs.Output.{place_rows, module_rows}

-- the modules of a book that is read so; none where it is refused
abbrev pub modules_in : Outcome → Catalogue
modules_in (turned_away n w) = []
modules_in (accepted places modules) = opened places modules

abbrev pub text : List ℕ
text = ascii "module Slow { S = w.?1.S; } module Fast { F = ?1.F; } module Late { L = ?2.w.?1.0; } module Prompt { P = ?2.?1.0; } module Delayed { D = w.i.0; } module Inner { I = i.0; } module Mixed { M = w.?1.0 + i.0; } module Sender { S = !1.0; } module Receiver { R = w.?1.0; }"

-- its places, module by module, and its modules
abbrev pub places : List Place
places =
    Name 2 ∷ Act (pos 1) 0 ∷ Wait 1
    ∷ Name 1 ∷ Act (pos 1) 0
    ∷ Nil ∷ Act (pos 1) 0 ∷ Wait 1 ∷ Act (pos 2) 2
    ∷ Nil ∷ Act (pos 1) 0 ∷ Act (pos 2) 1
    ∷ Nil ∷ Act (pos 0) 0 ∷ Wait 1
    ∷ Nil ∷ Act (pos 0) 0
    ∷ Nil ∷ Act (pos 1) 0 ∷ Wait 1 ∷ Nil ∷ Act (pos 0) 3 ∷ Sum 2 4
    ∷ Nil ∷ Act (negsuc 0) 0
    ∷ Nil ∷ Act (pos 1) 0 ∷ Wait 1
    ∷ []

abbrev from : (first many start : ℕ) → ModuleRow
from f n s = record { first = f; places = n; start = s }

abbrev pub modules : List ModuleRow
modules = from 0 3 2 ∷ from 3 2 1 ∷ from 5 4 3 ∷ from 9 3 2 ∷ from 12 3 2 ∷ from 15 2 1 ∷ from 17 6 5 ∷ from 23 2 1 ∷ from 25 3 2 ∷ []

abbrev pub shop : Catalogue
shop = modules_in (outcome place_rows module_rows text)

-- so many pairs, and the rank of the first
abbrev pub found : (pairs rank : ℕ) → Result Compared CompareFault
found n k = Ok (record { pairs = n; rank = k })

-- the slots !1.0 and w.?1.0, port 1 hidden
abbrev pub hall : Line
hall = planned (plain 7 ∷ plain 8 ∷ []) (1 ∷ [])

pub record Worked : Type 0 where
  pub reads : outcome place_rows module_rows text ≡ accepted places modules
  -- Slow starts in 32, ticks to 33, where 1 is urgent and the tick stays
  pub slow_starts : (module_in shop 0).start ≡ 32
  pub slow_waits : members (state_in shop 0 32).urgent ≡ []
  pub slow_ticks : (state_in shop 0 32).tick ≡ Some 33
  pub slow_urges : members (state_in shop 0 33).urgent ≡ pos 1 ∷ []
  pub slow_stays : (state_in shop 0 33).tick ≡ Some 33
  -- Fast for Slow, and Slow for Fast
  pub fast_for_slow : answer shop 1 0 4 ≡ found 4 0
  pub slow_for_fast : answer shop 0 1 4 ≡ found 4 1
  -- ?2.w.?1.0 for ?2.?1.0
  pub late_for_prompt : answer shop 2 3 4 ≡ found 4 2
  -- w.i.0 for i.0, and the other way
  pub delayed_for_inner : answer shop 4 5 2 ≡ found 2 1
  pub inner_for_delayed : answer shop 5 4 2 ≡ found 2 0
  -- w.?1.0 + i.0 has two moves, urgent set {0}, no tick
  pub mixed_moves : (state_in shop 6 80).moves ≡ move (pos 1) 0 ∷ move (pos 0) 48 ∷ []
  pub mixed_urges : members (state_in shop 6 80).urgent ≡ pos 0 ∷ []
  pub mixed_rests : (state_in shop 6 80).tick ≡ None
  -- Slots !1.0 and w.?1.0, port 1 hidden: ticks at the start, then not, with urgent set {0}
  pub hall_ticks : ticks shop hall (16 ∷ 32 ∷ []) ≡ true
  pub none_urgent : members (urgents shop hall (16 ∷ 32 ∷ [])) ≡ []
  pub hall_waits : (state_in shop 8 32).tick ≡ Some 33
  pub then_not : ticks shop hall (16 ∷ 33 ∷ []) ≡ false
  pub then_internal : members (urgents shop hall (16 ∷ 33 ∷ [])) ≡ pos 0 ∷ []
