-- The walk from a place through waits, sums and names, and refusal 8 where it comes back. Assumes nothing.
use Rattle.std.specs.Prelude.{◌≡◌, ℕ, ◌<◌, ◌⊎◌, List, length, Some, None, Option}
use Rattle.rows.specs.declared.row.Place.{Place}
use Rattle.rows.specs.declared.row.Place.TheVariants.{Nil, Act, Wait, Sum, Name}
use Rattle.rows.specs.declared.row.ModuleRow.{ModuleRow}
use Rattle.rows.specs.declared.fault.RowsFault.{RowsFault}
use Rattle.rows.specs.declared.fault.RowsFault.TheVariants.{Unguarded}
use Rattle.rows.specs.Places.{row}
use Rattle.rows.specs.Opening.{places_in}

-- the walk goes on from a place to place j; it stops at nil and at actions
abbrev pub Onward : Place → ℕ → Type 0
Onward Nil j = ⊥
Onward (Act a k) j = ⊥
Onward (Wait k) j = j ≡ k
Onward (Sum l r) j = (j ≡ l) ⊎ (j ≡ r)
Onward (Name k) j = j ≡ k

module _ (ps : List Place) where
  pub data Walk : ℕ → ℕ → Type 0 where
    here : {i : ℕ} → Walk i i
    on : {i j k : ℕ} → Onward (row ps i) j → Walk j k → Walk i k

  -- the walk from i comes to a place, goes on, and comes to that place again
  pub record ComesBack (i : ℕ) : Type 0 where
    pub place : ℕ
    pub next : ℕ
    pub comes : Walk i place
    pub goes_on : Onward (row ps place) next
    pub back : Walk next place

-- Refusal 8 in these words, for the verdict on rows: it is told of the first place of its module whose walk comes back,
-- and in rows that are taken no walk does.
pub record TellsOfWalks (rows : List Place) (ms : List ModuleRow) (verdict : Option RowsFault) : Type 0 where
  pub comes_back : (m i : ℕ) → verdict ≡ Some (Unguarded m i) → ComesBack (places_in rows ms m) i
  pub first : (m i : ℕ) → verdict ≡ Some (Unguarded m i) → (j : ℕ) → j < i → ComesBack (places_in rows ms m) j → ⊥
  pub none_returns : verdict ≡ None → (m : ℕ) → m < length ms → (i : ℕ) → i < length (places_in rows ms m) → ComesBack (places_in rows ms m) i → ⊥
