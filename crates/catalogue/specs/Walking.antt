-- Walking over the moves of a state: the moves still to come. Assumes nothing.
use Rattle.std.specs.Prelude.{List, drop}
use Rattle.catalogue.specs.declared.Move.{Move}
use Rattle.catalogue.specs.declared.moves.Moves.{Moves}
use Rattle.catalogue.specs.Catalogue.{Catalogue, state_in}

-- those from the next one on, given what the catalogue means
unfoldable pub moves_to_come : {C : Type 0} → (C → Catalogue) → Moves C → List Move
moves_to_come meaning w = drop w.number (state_in (meaning w.catalogue.now) w.part w.code).moves
