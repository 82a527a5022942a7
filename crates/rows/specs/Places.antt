-- Places of a module: depth, moves, urgent actions and ticks, and the module that they make. Assumes nothing.
use Rattle.std.specs.Prelude.{ℕ, zero, suc, ◌+◌, ◌*◌, ◌/◌, ◌%◌, max, Bool, true, false, ◌&&◌, ◌||◌, List, [], ◌∷◌, ◌++◌, map, length, ℤ, Some, None, Option, nat_lt, slice_index_or}
use Rattle.std.specs.List.{range_with_len}
use Rattle.action.specs.declared.set.ActionSet.{ActionSet}
use Rattle.action.specs.Action.{internal, same}
use Rattle.action.specs.Sets.{has, set_of}
use Rattle.catalogue.specs.declared.Move.{Move}
use Rattle.catalogue.specs.Catalogue.{Module, State, move}
use Rattle.rows.specs.declared.row.Place.{Place}
use Rattle.rows.specs.declared.row.Place.TheVariants.{Nil, Act, Wait, Sum, Name}

-- A state is a place with an age from 0 to 15, which its code tells.
abbrev pub ages : ℕ
ages = 16

abbrev pub code : ℕ → ℕ → ℕ
code i k = ages * i + k

-- the place with number i
abbrev pub row : List Place → ℕ → Place
row ps i = slice_index_or ps i Nil

-- What a place of each kind has, from what the places have that it leads to.
-- Whether its walk through waits, sums and names ends:
abbrev pub ends_by : Place → (ℕ → Bool) → Bool
ends_by Nil e = true
ends_by (Act a j) e = true
ends_by (Wait j) e = e j
ends_by (Sum l r) e = e l && e r
ends_by (Name j) e = e j

abbrev pub depth_by : Place → (ℕ → ℕ) → ℕ
depth_by Nil d = 0
depth_by (Act a j) d = 0
depth_by (Wait j) d = suc (d j)
depth_by (Sum l r) d = max (d l) (d r)
depth_by (Name j) d = d j

abbrev pub moves_by : Place → (ℕ → List Move) → List Move
moves_by Nil m = []
moves_by (Act a j) m = move a (code j 0) ∷ []
moves_by (Wait j) m = m j
moves_by (Sum l r) m = m l ++ m r
moves_by (Name j) m = m j

-- whether an action is urgent in it, at an age
abbrev pub waited : ℕ → (ℕ → Bool) → Bool
waited zero u = false
waited (suc k) u = u k

abbrev pub urgent_by : Place → ℕ → ℤ → (ℕ → ℕ → Bool) → Bool
urgent_by Nil k a u = false
urgent_by (Act b j) k a u = same b a
urgent_by (Wait j) k a u = waited k (u j)
urgent_by (Sum l r) k a u = u l k || u r k
urgent_by (Name j) k a u = u j k

-- The same, followed through at most f places.
unfoldable pub ends : List Place → ℕ → ℕ → Bool
ends ps zero i = false
ends ps (suc f) i = ends_by (row ps i) (λ j. ends ps f j)

unfoldable pub depth : List Place → ℕ → ℕ → ℕ
depth ps zero i = 0
depth ps (suc f) i = depth_by (row ps i) (λ j. depth ps f j)

unfoldable pub moves : List Place → ℕ → ℕ → List Move
moves ps zero i = []
moves ps (suc f) i = moves_by (row ps i) (λ j. moves ps f j)

unfoldable pub urgent : List Place → ℕ → ℕ → ℕ → ℤ → Bool
urgent ps zero i k a = false
urgent ps (suc f) i k a = urgent_by (row ps i) k a (λ j n. urgent ps f j n a)

-- A walk through more places than the module has comes back to one of them: following through as many decides.
abbrev pub guarded : List Place → ℕ → Bool
guarded ps i = ends ps (length ps) i

abbrev pub depth_of : List Place → ℕ → ℕ
depth_of ps i = depth ps (length ps) i

abbrev pub moves_of : List Place → ℕ → List Move
moves_of ps i = moves ps (length ps) i

abbrev pub is_urgent : List Place → ℕ → ℕ → ℤ → Bool
is_urgent ps i k a = urgent ps (length ps) i k a

abbrev pub urgent_of : List Place → ℕ → ℕ → ActionSet
urgent_of ps i k = set_of (is_urgent ps i k)

-- A tick: the age grows by one below the depth, and stays from there on.
abbrev pub older : ℕ → ℕ → ℕ
older d k = elim (nat_lt k d) [ true ↦ suc k | false ↦ k ]

abbrev pub tick_of : List Place → ℕ → ℕ → Option ℕ
tick_of ps i k = elim (has (urgent_of ps i k) internal) [ true ↦ None | false ↦ Some (code i (older (depth_of ps i) k)) ]

-- The states of a module are all its places at all ages.
abbrev pub state_of : List Place → ℕ → ℕ → State
state_of ps i k = record { moves = moves_of ps i; urgent = urgent_of ps i k; tick = tick_of ps i k }

abbrev pub states_of : List Place → List State
states_of ps = map (λ c. state_of ps (c / ages) (c % ages)) (range_with_len 0 (ages * length ps))

abbrev pub module_of : List Place → ℕ → Module
module_of ps s = record { start = code s 0; states = states_of ps }
