-- What the layers mean, given what the catalogues that they hold mean. Assumes nothing.
use Rattle.catalogue.specs.Catalogue.{Catalogue}
use Rattle.catalogue.specs.Layers.{joined, renamed_catalogue}
use Rattle.layers.specs.declared.joined.Joined.{Joined}
use Rattle.layers.specs.declared.renamed.Renamed.{Renamed}

abbrev pub joined_meaning : {A B : Type 0} → (A → Catalogue) → (B → Catalogue) → Joined A B → Catalogue
joined_meaning front back c = joined (front c.front) (back c.back)

abbrev pub renamed_meaning : {C : Type 0} → (C → Catalogue) → Renamed C → Catalogue
renamed_meaning inner c = renamed_catalogue c.renaming.entries (inner c.inner)
