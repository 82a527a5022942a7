use Rattle.std.proofs.Common.{refl}
use Rattle.catalogue.specs.Walking.{moves_to_come}
use Rattle.catalogue.proofs.moves.Moves.of.Goals as goal

pub returns : goal.returns
unfolding moves_to_come
returns g c = refl
