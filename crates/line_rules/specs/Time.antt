-- The time question: whether a line ticks in a state, and its urgent set. Assumes nothing.
use Rattle.std.specs.Prelude.{ℕ, Bool, true, false, not, ◌&&◌, ◌||◌, T, ◌↔◌, List, length, ℤ, is_some, Ok, Err, Result, ◌==◌, nat_lt, slice_index}
use Rattle.action.specs.Lists.{below, every}
use Rattle.action.specs.Action.{internal, same}
use Rattle.action.specs.declared.set.ActionSet.{ActionSet}
use Rattle.action.specs.Sets.{has, meets, set_of, ◌∋◌}
use Rattle.renaming.specs.Renaming.{image}
use Rattle.catalogue.specs.Catalogue.{Catalogue, codes, state}
use Rattle.line_rules.specs.declared.TimeFault.{TimeFault}
use Rattle.line_rules.specs.declared.TimeFault.TheVariants.{UnknownModule, NoState}
use Rattle.line_rules.specs.declared.TimeAnswer.{TimeAnswer}
use Rattle.line_rules.specs.Line.{Line, slot, inside, hides, line_running}

-- the number that a refusal is told by
abbrev pub time_number : TimeFault → ℕ
time_number UnknownModule = 22
time_number NoState = 26

-- what slot i urges, as it is to the line
abbrev pub held : Catalogue → Line → List ℕ → ℕ → ActionSet
held ms l s i = image (slot l i).wiring (state (inside ms l i) (slice_index s i)).urgent

-- whether one of the first n slots urges an action; whether two different ones of them urge opposite actions
abbrev pub urged : Catalogue → Line → List ℕ → ℕ → ℤ → Bool
urged ms l s n a = below n (λ i. has (held ms l s i) a)

abbrev pub clash : Catalogue → Line → List ℕ → ℕ → Bool
clash ms l s n = below n (λ i. below i (λ j. meets (held ms l s j) (held ms l s i)))

abbrev pub gathers : Catalogue → Line → List ℕ → ℕ → ℤ → Bool
gathers ms l s n a = urged ms l s n a || (same a internal && clash ms l s n)

-- the urgent set: hidden ports and their opposites are dropped last
unfoldable pub urgents : Catalogue → Line → List ℕ → ActionSet
urgents ms l s = set_of (λ a. not (hides l a) && gathers ms l s (length l.slots) a)

abbrev pub slot_ticks : Catalogue → Line → List ℕ → ℕ → Bool
slot_ticks ms l s i = is_some (state (inside ms l i) (slice_index s i)).tick

unfoldable pub ticks : Catalogue → Line → List ℕ → Bool
ticks ms l s = every (length l.slots) (slot_ticks ms l s) && not (has (urgents ms l s) internal)

-- every slot holds a module of the catalogue; the list has a code of its module for each slot
abbrev pub knows : Catalogue → Line → ℕ → Bool
knows ms l i = nat_lt (slot l i).holds (length ms)

abbrev pub has_code : Catalogue → Line → List ℕ → ℕ → Bool
has_code ms l s i = nat_lt (slice_index s i) (codes (inside ms l i))

unfoldable pub stands : Catalogue → Line → List ℕ → Bool
stands ms l s = length s == length l.slots && every (length l.slots) (has_code ms l s)

-- The answer: every module must be known, then the list must be a state of the line.
unfoldable pub time_answer : Catalogue → Line → List ℕ → Result TimeAnswer TimeFault
time_answer ms l s =
    elim (every (length l.slots) (knows ms l)) [
      | true ↦ elim (stands ms l s) [ true ↦ Ok (record { ticks = ticks ms l s; urgent = urgents ms l s }) | false ↦ Err NoState ]
      | false ↦ Err UnknownModule
    ]

-- What an answer says of the line: the list is a state of it, the set holds exactly the actions that are urgent in that
-- state, and the line ticks in it exactly when the answer says so.
pub record Tells (ms : Catalogue) (l : Line) (s : List ℕ) (v : TimeAnswer) : Type 0 where
  pub standing : (line_running ms l).State s
  pub urgent : (a : ℤ) → (v.urgent ∋ a) ↔ (line_running ms l).Urgent s a
  pub time : T v.ticks ↔ ((t : List ℕ) × (line_running ms l).Ticks s t)
