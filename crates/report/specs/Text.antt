-- What is printed of a catalogue, byte by byte. Assumes nothing.
use Rattle.std.specs.Prelude.{ℕ, zero, suc, List, [], ◌∷◌, length, ℤ, pos, negsuc, Some, None, codes as ascii, decimal, Option}
use Rattle.action.specs.Lists.{◌⧺◌}
use Rattle.action.specs.Sets.{members}
use Rattle.catalogue.specs.declared.Move.{Move}
use Rattle.catalogue.specs.Catalogue.{State, Module, Catalogue, codes, start_of}

-- an action as in a book: ?7 receives on port 7, !7 sends on it, i is the internal event
abbrev pub action_text : ℤ → List ℕ
action_text (pos zero) = ascii "i"
action_text (pos (suc n)) = ascii "?" ⧺ decimal (suc n)
action_text (negsuc n) = ascii "!" ⧺ decimal (suc n)

-- a move as action>target
abbrev pub move_text : Move → List ℕ
move_text s = action_text s.action ⧺ ascii ">" ⧺ decimal s.target

-- the target of the tick, or a dash where time cannot pass; with a space in front
abbrev pub tick_word : Option ℕ → List ℕ
tick_word None = ascii "-"
tick_word (Some d) = decimal d

abbrev pub tick_text : Option ℕ → List ℕ
tick_text t = ascii " " ⧺ tick_word t

-- each with a space in front; where there is none, a space and a dash
abbrev pub spaced : {A : Type 0} → (A → List ℕ) → List A → List ℕ
spaced f [] = []
spaced f (x ∷ xs) = ascii " " ⧺ f x ⧺ spaced f xs

abbrev pub listed : {A : Type 0} → (A → List ℕ) → List A → List ℕ
listed f [] = ascii " -"
listed f (x ∷ xs) = spaced f (x ∷ xs)

-- a text for each, one after the other, numbered from k on
abbrev pub numbered : {A : Type 0} → (ℕ → A → List ℕ) → ℕ → List A → List ℕ
numbered f k [] = []
numbered f k (x ∷ xs) = f k x ⧺ numbered f (suc k) xs

-- 0.0: tick -; urgent i; moves i>1 ?3>0
abbrev pub state_line : ℕ → ℕ → State → List ℕ
state_line part code s =
    decimal part ⧺ ascii "." ⧺ decimal code
    ⧺ ascii ": tick" ⧺ tick_text s.tick
    ⧺ ascii "; urgent" ⧺ listed action_text (members s.urgent)
    ⧺ ascii "; moves" ⧺ listed move_text s.moves ⧺ ascii "\n"

-- module 0: codes 2, start 0; and its states, in lines of their own
abbrev pub module_lines : ℕ → Module → List ℕ
module_lines part m =
    ascii "module " ⧺ decimal part
    ⧺ ascii ": codes " ⧺ decimal (codes m)
    ⧺ ascii ", start " ⧺ decimal (start_of m) ⧺ ascii "\n"
    ⧺ numbered (state_line part) 0 m.states

-- maker.tab: modules 1; and the modules, numbered from k on, under the name of the file that they come from
unfoldable pub catalogue_lines : List ℕ → ℕ → Catalogue → List ℕ
catalogue_lines name k ms =
    name ⧺ ascii ": modules " ⧺ decimal (length ms) ⧺ ascii "\n"
    ⧺ numbered module_lines k ms

-- a file that is refused, and why
abbrev pub refused_line : List ℕ → List ℕ → List ℕ
refused_line name why = name ⧺ ascii " " ⧺ why ⧺ ascii "\n"

-- by a number and a place: maker.tab 15 11
abbrev pub fault_line : List ℕ → ℕ → ℕ → List ℕ
fault_line name number place = name ⧺ ascii " " ⧺ decimal number ⧺ ascii " " ⧺ decimal place ⧺ ascii "\n"

-- a file that is too long: maker.tab long
abbrev pub long_line : List ℕ → List ℕ
long_line name = name ⧺ ascii " long\n"

-- a file may have this many bytes
abbrev pub longest_file : ℕ
longest_file = 65536
