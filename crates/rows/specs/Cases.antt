-- Examples, worked out by the definitions. Assumes nothing.
use Rattle.std.specs.Prelude.{◌≡◌, ℕ, zero, suc, List, [], ◌∷◌, pos, Some, None}
use Rattle.action.specs.Sets.{members}
use Rattle.catalogue.specs.Catalogue.{Module, state, module_in, codes, move}
use Rattle.rows.specs.declared.row.Place.{Place}
use Rattle.rows.specs.declared.row.Place.TheVariants.{Nil, Act, Wait, Sum, Name}
use Rattle.rows.specs.declared.row.ModuleRow.{ModuleRow}
use Rattle.rows.specs.declared.fault.RowsFault.TheVariants.{Unguarded, Deep}
use Rattle.rows.specs.Opening.{fault, opened}

-- one module of n places that starts in place s
abbrev one_module : ℕ → ℕ → List ModuleRow
one_module n s = record { first = 0; places = n; start = s } ∷ []

-- S = w.?1.S
abbrev slow : Module
slow = module_in (opened (Name 2 ∷ (Act (pos 1) 0 ∷ (Wait 1 ∷ []))) (one_module 3 2)) 0

-- w.?1.0 + i.0
abbrev mixed : Module
mixed = module_in (opened (Nil ∷ (Act (pos 1) 0 ∷ (Wait 1 ∷ (Nil ∷ (Act (pos 0) 3 ∷ (Sum 2 4 ∷ [])))))) (one_module 6 5)) 0

-- X = w.X and X = ?1.X
abbrev waits_for_itself : List Place
waits_for_itself = Name 1 ∷ (Wait 0 ∷ [])

abbrev repeats : List Place
repeats = Name 1 ∷ (Act (pos 1) 0 ∷ [])

-- A = w. .. w.?1.A with n waits
abbrev waits : ℕ → ℕ → List Place
waits zero k = []
waits (suc n) k = Wait k ∷ waits n (suc k)

abbrev late : ℕ → List Place
late n = Name (suc n) ∷ (Act (pos 1) 0 ∷ waits n 1)

pub record Worked : Type 0 where
  pub slow_codes : codes slow ≡ 48
  pub slow_starts : slow.start ≡ 32
  pub slow_waits : members (state slow 32).urgent ≡ []
  pub slow_ticks : (state slow 32).tick ≡ Some 33
  pub slow_urges : members (state slow 33).urgent ≡ pos 1 ∷ []
  pub slow_stays : (state slow 33).tick ≡ Some 33
  pub slow_moves : (state slow 33).moves ≡ move (pos 1) 0 ∷ []
  pub mixed_moves : (state mixed 80).moves ≡ move (pos 1) 0 ∷ (move (pos 0) 48 ∷ [])
  pub mixed_urges : members (state mixed 80).urgent ≡ pos 0 ∷ []
  pub mixed_rests : (state mixed 80).tick ≡ None
  pub unguarded_refused : fault waits_for_itself (one_module 2 1) ≡ Some (Unguarded 0 0)
  pub guarded_taken : fault repeats (one_module 2 1) ≡ None
  pub fifteen_taken : fault (late 15) (one_module 17 16) ≡ None
  pub sixteen_refused : fault (late 16) (one_module 18 17) ≡ Some (Deep 0 0)
