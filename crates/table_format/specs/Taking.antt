-- Taking a table: its fields are tried in order, and the first that fails is its fault. Assumes nothing.
use Rattle.std.specs.Prelude.{ℕ, zero, suc, ◌+◌, ◌*◌, Bool, true, false, not, ◌&&◌, ◌||◌, List, length, is_some, Some, None, Option, ◌==◌, nat_le, nat_lt}
use Rattle.action.specs.Action.{internal, is_action}
use Rattle.table_format.specs.declared.fault.TableFault.{TableFault}
use Rattle.table_format.specs.declared.fault.TableFault.TheVariants.{NotVersionOne, PastEnd, WrongStateLength, LeftOver, TooManyModules, WrongStateCount, TooManyMoves, NotAnAction, NotAMark, NotAState, WrongTick, NoMemory}
use Rattle.table_format.specs.Numbers.{byte, pair, byte_action}
use Rattle.table_format.specs.Encoding.{no_tick}
use Rattle.table_format.specs.Records.{marked}
use Rattle.table_format.specs.Reading.{after, codes_at, move_records}

infixr 3 ◌▹◌
-- The limits of a table, each in this one place.
abbrev pub most_table_modules : ℕ
most_table_modules = 64

abbrev pub most_table_states : ℕ
most_table_states = 4096

abbrev pub most_table_moves : ℕ
most_table_moves = 64

-- The number and the offset that are told of a fault. Want of memory has no number.
abbrev pub number : TableFault → Option ℕ
number NotVersionOne = Some 11
number (PastEnd i) = Some 12
number (WrongStateLength i) = Some 12
number (LeftOver i) = Some 12
number TooManyModules = Some 13
number (WrongStateCount i) = Some 13
number (TooManyMoves i) = Some 13
number (NotAnAction i) = Some 14
number (NotAMark i) = Some 14
number (NotAState i) = Some 14
number (WrongTick i) = Some 15
number NoMemory = None

abbrev pub place : TableFault → ℕ
place NotVersionOne = 0
place (PastEnd i) = i
place (WrongStateLength i) = i
place (LeftOver i) = i
place TooManyModules = 1
place (WrongStateCount i) = i
place (TooManyMoves i) = i
place (NotAnAction i) = i
place (NotAMark i) = i
place (NotAState i) = i
place (WrongTick i) = i
place NoMemory = 0

-- one test: no fault where it holds
abbrev pub try : Bool → TableFault → Option TableFault
try t f = elim t [ true ↦ None | false ↦ Some f ]

-- one after the other: the first fault counts
abbrev pub ◌▹◌ : Option TableFault → Option TableFault → Option TableFault
None ▹ g = g
Some f ▹ g = Some f

-- the move at k, in a module of n states
abbrev pub move_fault : List ℕ → ℕ → ℕ → Option TableFault
move_fault b n k =
    try (is_action (byte_action (byte b k))) (NotAnAction k)
    ▹ try (nat_le (byte b (k + 1)) 1) (NotAMark (k + 1))
    ▹ try (nat_lt (pair b (k + 2)) n) (NotAState (k + 2))

abbrev pub moves_fault : List ℕ → ℕ → ℕ → ℕ → Option TableFault
moves_fault b n zero k = None
moves_fault b n (suc j) k = move_fault b n k ▹ moves_fault b n j (k + 4)

-- a tick, or an urgent internal move, and not both
abbrev pub timed : List ℕ → ℕ → Bool
timed b s = elim (pair b (s + 2) == no_tick) [ true ↦ marked (move_records b (byte b (s + 4)) (s + 5)) internal | false ↦ not (marked (move_records b (byte b (s + 4)) (s + 5)) internal) ]

-- a tick that is no state of a module of n states
abbrev pub leads_outside : Option ℕ → ℕ → Bool
leads_outside None n = false
leads_outside (Some d) n = nat_le n d

-- the length of the state at s, in a module that ends at e
abbrev pub state_length_fault : List ℕ → ℕ → ℕ → Option TableFault
state_length_fault b e s =
    try (nat_le (s + 2) e) (PastEnd s)
    ▹ try (nat_le 3 (pair b s) && nat_le (after b s) e) (PastEnd s)
    ▹ try (pair b s == 3 + 4 * byte b (s + 4)) (WrongStateLength s)

-- its fields, in a module of n states
abbrev pub state_fields_fault : List ℕ → ℕ → ℕ → Option TableFault
state_fields_fault b n s =
    try (pair b (s + 2) == no_tick || nat_lt (pair b (s + 2)) n) (NotAState (s + 2))
    ▹ try (nat_le (byte b (s + 4)) most_table_moves) (TooManyMoves (s + 4))
    ▹ moves_fault b n (byte b (s + 4)) (s + 5)
    ▹ try (timed b s) (WrongTick (s + 2))

unfoldable pub state_fault : List ℕ → ℕ → ℕ → ℕ → Option TableFault
state_fault b n e s = state_length_fault b e s ▹ state_fields_fault b n s

-- j states from s on, and nothing behind them
abbrev pub states_fault : List ℕ → ℕ → ℕ → ℕ → ℕ → Option TableFault
states_fault b n e zero s = try (nat_le e s) (LeftOver s)
states_fault b n e (suc j) s = state_fault b n e s ▹ states_fault b n e j (after b s)

-- the length of the module at m
abbrev pub module_length_fault : List ℕ → ℕ → Option TableFault
module_length_fault b m =
    try (nat_le (m + 2) (length b)) (PastEnd m)
    ▹ try (nat_le (after b m) (length b)) (PastEnd m)

-- its state count and its start
abbrev pub module_head_fault : List ℕ → ℕ → Option TableFault
module_head_fault b m =
    try (nat_le (m + 4) (after b m)) (PastEnd (m + 2))
    ▹ try (nat_le 1 (codes_at b m) && nat_le (codes_at b m) most_table_states) (WrongStateCount (m + 2))
    ▹ try (nat_le (m + 6) (after b m)) (PastEnd (m + 4))
    ▹ try (nat_lt (pair b (m + 4)) (codes_at b m)) (NotAState (m + 4))

unfoldable pub module_fault : List ℕ → ℕ → Option TableFault
module_fault b m = module_length_fault b m ▹ module_head_fault b m ▹ states_fault b (codes_at b m) (after b m) (codes_at b m) (m + 6)

-- j modules from m on, and nothing behind them
abbrev pub modules_fault : List ℕ → ℕ → ℕ → Option TableFault
modules_fault b zero m = try (nat_le (length b) m) (LeftOver m)
modules_fault b (suc j) m = module_fault b m ▹ modules_fault b j (after b m)

-- the version and the module count
abbrev pub head_fault : List ℕ → Option TableFault
head_fault b =
    try (byte b 0 == 1) NotVersionOne
    ▹ try (nat_le 3 (length b)) (PastEnd 1)
    ▹ try (nat_le (pair b 1) most_table_modules) TooManyModules

-- the fault of a table; none where it is taken
unfoldable pub fault : List ℕ → Option TableFault
fault b = head_fault b ▹ modules_fault b (pair b 1) 3

abbrev pub taken : List ℕ → Bool
taken b = not (is_some (fault b))
