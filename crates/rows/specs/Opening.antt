-- Opening rows as a catalogue: what is tried, in which order, and what opened rows mean. Assumes nothing.
use Rattle.std.specs.Prelude.{◌≡◌, ℕ, zero, suc, ◌+◌, ◌<◌, ◌≤◌, Bool, true, false, ◌&&◌, ltb, leb, List, [], ◌∷◌, map, length, take, drop, Some, None, Ok, Err, Option, Result, nat_le, nat_lt, slice_index_or}
use Rattle.action.specs.Action.{is_action}
use Rattle.catalogue.specs.Catalogue.{Catalogue, Module, most_moves}
use Rattle.rows.specs.declared.row.Place.{Place}
use Rattle.rows.specs.declared.row.Place.TheVariants.{Nil, Act, Wait, Sum, Name}
use Rattle.rows.specs.declared.row.ModuleRow.{ModuleRow}
use Rattle.rows.specs.declared.fault.RowsFault.{RowsFault}
use Rattle.rows.specs.declared.fault.RowsFault.TheVariants.{ManyModules, ManyPlaces, BeyondRows, NoStart, Outside, NoAction, Unguarded, Deep, ManyMoves}
use Rattle.rows.specs.Places.{ages, row, guarded, depth_of, moves_of, module_of}

-- The bounds, each in this one place.
abbrev pub book_modules : ℕ
book_modules = 64

abbrev pub book_places : ℕ
book_places = 256

-- the places of a module
abbrev pub places_of : List Place → ModuleRow → List Place
places_of rows r = take r.places (drop r.first rows)

-- the row of module m of a book, and its places
abbrev pub row_of : List ModuleRow → ℕ → ModuleRow
row_of ms m = slice_index_or ms m record { first = 0; places = 0; start = 0 }

abbrev pub places_in : List Place → List ModuleRow → ℕ → List Place
places_in rows ms m = places_of rows (row_of ms m)

-- a place leads to places of a module of n alone
abbrev pub inside : ℕ → Place → Bool
inside n Nil = true
inside n (Act a j) = nat_lt j n
inside n (Wait j) = nat_lt j n
inside n (Sum l r) = nat_lt l n && nat_lt r n
inside n (Name j) = nat_lt j n

-- what stands for an action in it is one
abbrev pub by_action : Place → Bool
by_action Nil = true
by_action (Act a j) = is_action a
by_action (Wait j) = true
by_action (Sum l r) = true
by_action (Name j) = true

-- the first of the n numbers from k on that fails a test
abbrev pub first_failing : (ℕ → Bool) → ℕ → ℕ → Option ℕ
first_failing f zero k = None
first_failing f (suc n) k = elim (f k) [ true ↦ first_failing f n (suc k) | false ↦ Some k ]

-- One trial after the other: where it fails, its fault is told, and else what the rest finds.
abbrev pub unless : Bool → RowsFault → Option RowsFault → Option RowsFault
unless true e rest = rest
unless false e rest = Some e

abbrev pub unless_at : Option ℕ → (ℕ → RowsFault) → Option RowsFault → Option RowsFault
unless_at None e rest = rest
unless_at (Some i) e rest = Some (e i)

-- module m of a book: each trial over all its places
module _ (ps : List Place) (m : ℕ) where
  abbrev pub try_each : (ℕ → Bool) → (ℕ → RowsFault) → Option RowsFault → Option RowsFault
  try_each f e rest = unless_at (first_failing f (length ps) 0) e rest

  unfoldable pub places_fault : Option RowsFault
  places_fault =
      try_each (λ i. inside (length ps) (row ps i)) (λ i. Outside m i)
      (try_each (λ i. by_action (row ps i)) (λ i. NoAction m i)
      (try_each (guarded ps) (λ i. Unguarded m i)
      (try_each (λ i. ltb (depth_of ps i) ages) (λ i. Deep m i)
      (try_each (λ i. leb (length (moves_of ps i)) most_moves) (λ i. ManyMoves m i)
      None))))

-- its row, then its places
unfoldable pub module_fault : List Place → ℕ → ModuleRow → Option RowsFault
module_fault rows m r =
    unless (nat_lt m book_modules) (ManyModules m)
    (unless (nat_le r.places book_places) (ManyPlaces m)
    (unless (nat_le (r.first + r.places) (length rows)) (BeyondRows m)
    (unless (nat_lt r.start r.places) (NoStart m)
    (places_fault (places_of rows r) m))))

-- each module in turn, from number m on
abbrev pub fault_from : List Place → ℕ → List ModuleRow → Option RowsFault
fault_from rows m [] = None
fault_from rows m (r ∷ rs) = elim (module_fault rows m r) [ None ↦ fault_from rows (suc m) rs | Some e ↦ Some e ]

unfoldable pub fault : List Place → List ModuleRow → Option RowsFault
fault rows ms = fault_from rows 0 ms

-- What opened rows mean; nothing where they are at fault.
abbrev pub module_at : List Place → ModuleRow → Module
module_at rows r = module_of (places_of rows r) r.start

unfoldable pub opened : List Place → List ModuleRow → Catalogue
opened rows ms = elim (fault rows ms) [ None ↦ map (module_at rows) ms | Some e ↦ [] ]

-- a fault, or none, as a result
abbrev pub verdict_of : Option RowsFault → Result (Unit {0}) RowsFault
verdict_of None = Ok tt
verdict_of (Some e) = Err e

-- The places of a module that passed every trial.
pub record WellFormed (ps : List Place) : Type 0 where
  pub in_module : (i : ℕ) → i < length ps → inside (length ps) (row ps i) ≡ true
  pub actions : (i : ℕ) → i < length ps → by_action (row ps i) ≡ true
  pub no_return : (i : ℕ) → i < length ps → guarded ps i ≡ true
  pub shallow : (i : ℕ) → i < length ps → depth_of ps i < ages
  pub few : (i : ℕ) → i < length ps → length (moves_of ps i) ≤ most_moves
