-- Catalogues over catalogues: one behind another, and one whose actions are renamed. Assumes nothing.
use Rattle.std.specs.Prelude.{List, ◌++◌, map, take, ℤ}
use Rattle.renaming.specs.Renaming.{renamed, image}
use Rattle.catalogue.specs.declared.Move.{Move}
use Rattle.catalogue.specs.Catalogue.{Catalogue, Module, State, move, most_modules}

-- the modules of the one, then those of the other, as many as a catalogue may have
unfoldable pub joined : Catalogue → Catalogue → Catalogue
joined front back = take most_modules (front ++ back)

-- One renaming, given by its entries, applied to every action. Moves keep their order and number, starts and ticks stay.
abbrev pub renamed_move : List ℤ → Move → Move
renamed_move f m = move (renamed f m.action) m.target

abbrev pub renamed_state : List ℤ → State → State
renamed_state f s = record { moves = map (renamed_move f) s.moves; urgent = image f s.urgent; tick = s.tick }

abbrev pub renamed_module : List ℤ → Module → Module
renamed_module f m = record { start = m.start; states = map (renamed_state f) m.states }

unfoldable pub renamed_catalogue : List ℤ → Catalogue → Catalogue
renamed_catalogue f ms = map (renamed_module f) ms
