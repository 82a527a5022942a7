use Rattle.std.proofs.Common.{◌≡◌, ◌≤◌, length, subst, rules}
use Rattle.catalogue.specs.Catalogue.{Module, most_moves, state}
use Rattle.catalogue.specs.Walking.{moves_to_come}
use Rattle.catalogue.proofs.Walking.{moves_bound}
use Rattle.compare.proofs.Growth.{read_more}
use Rattle.compare.proofs.moves.MoveList.read.Goals as goal

pub loop-step-preserved : goal.loop-step-preserved
loop-step-preserved g c =
    let long : length c.loop-step.self-inside.all ≡ most_moves = search rules in
    read_more c.loop-step.self-inside.all (moves_to_come g.C.Catalogue.meaning c.next.new.self) (moves_to_come g.C.Catalogue.meaning c.loop-step.step-iterator) _ c.loop-step.count c.in-Some.step long
    (subst (λ (m : Module). length (state m c.args.code).moves ≤ most_moves) c.part.view_is
    (moves_bound (g.C.Catalogue.meaning c.part.inside.catalogue.now) c.part.inside.number c.args.code (g.met.C.Catalogue.lawful c.part.inside.catalogue.now)))
    c.in-Some.ensures.steps c.loop-step.invariant.1 c.loop-step.invariant.0
