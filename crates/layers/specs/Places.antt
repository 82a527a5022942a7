-- Where a module of a join is found. Assumes nothing.
use Rattle.std.specs.Prelude.{◌≡◌, ℕ, Some, None, Option}
use Rattle.action.specs.Lists.{nth}
use Rattle.catalogue.specs.Catalogue.{Catalogue}
use Rattle.catalogue.specs.Layers.{joined}
use Rattle.layers.specs.declared.joined.Place.{Place}
use Rattle.layers.specs.declared.joined.Place.TheVariants.{Front, Back}

-- The module with a number is that of the front or of the back with the number there, or it is not there.
abbrev pub Placed : Catalogue → Catalogue → ℕ → Option Place → Type 0
Placed a b k (Some (Front j)) = nth (joined a b) k ≡ nth a j
Placed a b k (Some (Back j)) = nth (joined a b) k ≡ nth b j
Placed a b k None = nth (joined a b) k ≡ None
