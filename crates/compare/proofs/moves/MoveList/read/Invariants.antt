use Rattle.std.proofs.Common.{◌≡◌, ◌≤◌, ◌++◌, take}
use Rattle.catalogue.specs.Catalogue.{most_moves, state}
use Rattle.catalogue.specs.Walking.{moves_to_come}
use Rattle.compare.proofs.moves.MoveList.read.Given as goal

abbrev pub invariant-loop-step : goal.invariant-loop-step
invariant-loop-step g l =
    (l.count ≤ most_moves)
    × (take l.count l.self-inside.all ++ moves_to_come g.C.Catalogue.meaning l.step-iterator ≡ (state l.part l.code).moves)
