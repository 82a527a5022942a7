-- Lines: modules side by side, each behind a renaming of its ports, with some ports hidden. Assumes nothing.
use Rattle.std.specs.Prelude.{◌≡◌, ℕ, ◌<◌, ◌≤◌, Bool, true, T, ◌≢◌, ◌⊎◌, List, [], map, length, ℤ, pos, slice_index, slice_index_or, slice_set, unsigned_abs}
use Rattle.action.specs.Action.{internal, last_port, Opposite}
use Rattle.action.specs.declared.set.ActionSet.{ActionSet}
use Rattle.action.specs.Sets.{has, ◌∋◌}
use Rattle.renaming.specs.Renaming.{renamed, full}
use Rattle.catalogue.specs.Catalogue.{Catalogue, Module, module_in}
use Rattle.catalogue.specs.Systems.{System, running}

abbrev pub most_slots : ℕ
most_slots = 16

-- A slot holds a module of the catalogue, given by its number; the wiring lists what its ports 1, 2, .. are to the line.
pub record Slot : Type 0 where
  pub holds : ℕ
  pub wiring : List ℤ

-- The hidden set holds ports.
pub record Line : Type 0 where
  pub slots : List Slot
  pub hidden : ActionSet

abbrev pub no_slot : Slot
no_slot = record { holds = 0; wiring = [] }

abbrev pub slot : Line → ℕ → Slot
slot l i = slice_index_or l.slots i no_slot

abbrev pub holds_of : Slot → ℕ
holds_of x = x.holds

-- the module in slot i, and what its action a is to the line
abbrev pub inside : Catalogue → Line → ℕ → Module
inside ms l i = module_in ms (slot l i).holds

abbrev pub outward : Line → ℕ → ℤ → ℤ
outward l i a = renamed (slot l i).wiring a

-- an action of a hidden port: the port itself, or its opposite
abbrev pub hides : Line → ℤ → Bool
hides l a = has l.hidden (pos (unsigned_abs a))

abbrev pub Hidden : Line → ℤ → Type 0
Hidden l a = T (hides l a)

-- What a line has that is drawn from a catalogue. (That different ports go to different ports is not asked here: nothing
-- that is shown of lines rests on it.)
pub record Drawn (ms : Catalogue) (l : Line) : Type 0 where
  pub some_slot : 1 ≤ length l.slots
  pub few_slots : length l.slots ≤ most_slots
  -- every slot holds a module of the catalogue, and sends each port to an action other than the internal event
  pub known : (i : ℕ) → i < length l.slots → (slot l i).holds < length ms
  pub wired : (i : ℕ) → i < length l.slots → full (slot l i).wiring ≡ true
  -- what is hidden are ports
  pub ports : (a : ℤ) → l.hidden ∋ a → (p : ℕ) × (1 ≤ p) × (p ≤ last_port) × (a ≡ pos p)

-- A state of a line has an existing code for each slot.
pub record Standing (ms : Catalogue) (l : Line) (s : List ℕ) : Type 0 where
  pub wide : length s ≡ length l.slots
  pub there : (i : ℕ) → i < length l.slots → (running (inside ms l i)).State (slice_index s i)

-- One slot moves, the others stand still. A move by a hidden port or its opposite does not count.
pub record Alone (ms : Catalogue) (l : Line) (s : List ℕ) (a : ℤ) (t : List ℕ) : Type 0 where
  pub i : ℕ
  pub by : ℤ
  pub to : ℕ
  pub known : i < length l.slots
  pub moves : (running (inside ms l i)).Moves (slice_index s i) by to
  pub is : a ≡ outward l i by
  pub seen : ¬ Hidden l a
  pub leaves : t ≡ slice_set s i to

-- Two different slots whose actions are opposite to the line move together, as the internal event.
pub record Joint (ms : Catalogue) (l : Line) (s : List ℕ) (a : ℤ) (t : List ℕ) : Type 0 where
  pub i : ℕ
  pub j : ℕ
  pub by_i : ℤ
  pub by_j : ℤ
  pub to_i : ℕ
  pub to_j : ℕ
  pub known_i : i < length l.slots
  pub known_j : j < length l.slots
  pub apart : i ≢ j
  pub moves_i : (running (inside ms l i)).Moves (slice_index s i) by_i to_i
  pub moves_j : (running (inside ms l j)).Moves (slice_index s j) by_j to_j
  pub meet : Opposite (outward l i by_i) (outward l j by_j)
  pub is : a ≡ internal
  pub leaves : t ≡ slice_set (slice_set s i to_i) j to_j

-- An action is urgent in a line because it is in a slot, and not hidden ..
pub record UrgentAlone (ms : Catalogue) (l : Line) (s : List ℕ) (a : ℤ) : Type 0 where
  pub i : ℕ
  pub by : ℤ
  pub known : i < length l.slots
  pub urges : (running (inside ms l i)).Urgent (slice_index s i) by
  pub is : a ≡ outward l i by
  pub seen : ¬ Hidden l a

-- .. or, the internal event, because two different slots hold urgent actions that are opposite to the line.
pub record UrgentJoint (ms : Catalogue) (l : Line) (s : List ℕ) (a : ℤ) : Type 0 where
  pub i : ℕ
  pub j : ℕ
  pub by_i : ℤ
  pub by_j : ℤ
  pub known_i : i < length l.slots
  pub known_j : j < length l.slots
  pub apart : i ≢ j
  pub urges_i : (running (inside ms l i)).Urgent (slice_index s i) by_i
  pub urges_j : (running (inside ms l j)).Urgent (slice_index s j) by_j
  pub meet : Opposite (outward l i by_i) (outward l j by_j)
  pub is : a ≡ internal

abbrev pub Urges : Catalogue → Line → List ℕ → ℤ → Type 0
Urges ms l s a = UrgentAlone ms l s a ⊎ UrgentJoint ms l s a

-- A line ticks, all slots together, where each slot ticks and the internal event is not urgent in the line.
pub record Ticking (ms : Catalogue) (l : Line) (s t : List ℕ) : Type 0 where
  pub wide : length t ≡ length l.slots
  pub slots : (i : ℕ) → i < length l.slots → (running (inside ms l i)).Ticks (slice_index s i) (slice_index t i)
  pub calm : ¬ Urges ms l s internal

-- the start has the starts of the modules
abbrev pub starts : Catalogue → List Slot → List ℕ
starts ms xs = map (λ (x : Slot). (module_in ms x.holds).start) xs

-- A line as a system: its states are lists of codes, one for each slot.
abbrev pub line_running : Catalogue → Line → System (List ℕ)
line_running ms l = record {
  start = starts ms l.slots;
  State = Standing ms l;
  Moves = λ s a t. Alone ms l s a t ⊎ Joint ms l s a t;
  Urgent = Urges ms l;
  Ticks = Ticking ms l;
}
