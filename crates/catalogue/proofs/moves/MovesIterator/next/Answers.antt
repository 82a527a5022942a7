use Rattle.std.proofs.Common.{◌≡◌, ◌+◌, List, length, drop, sym, ◌∙◌, ap, arith, rules}
use Rattle.std.proofs.iter.Next.{firm}
use Rattle.catalogue.specs.declared.Move.{Move}
use Rattle.catalogue.specs.Catalogue.{state_in}
use Rattle.catalogue.specs.Walking.{moves_to_come}
use Rattle.catalogue.proofs.Walking.{nth_in, comes_on, comes_none, moves_bound}
use Rattle.catalogue.proofs.moves.MovesIterator.next.Goals as goal

pub returns-in_err-step-clause-steps : goal.returns-in_err-step-clause-steps
unfolding moves_to_come
returns-in_err-step-clause-steps g c =
    let w = c.args.self.now in
    let xs : List Move = (state_in (g.C.Catalogue.meaning w.catalogue.now) w.part w.code).moves in
    comes_none xs w.number c.from_residual.result c.from_residual.ensures (sym c.in_err-step.was ∙ c.move_at.ensures)

pub overflow_add-self : goal.overflow_add-self
overflow_add-self g c =
    let w = c.args.self.now in
    let xs : List Move = (state_in (g.C.Catalogue.meaning w.catalogue.now) w.part w.code).moves in
    let h = nth_in xs w.number c.in_ok-step.step (sym c.in_ok-step.was ∙ c.move_at.ensures) in
    omega (arith, h.0, moves_bound (g.C.Catalogue.meaning w.catalogue.now) w.part w.code (g.met.C.Catalogue.lawful w.catalogue.now))

pub returns-clause-steps : goal.returns-clause-steps
unfolding moves_to_come
returns-clause-steps g c =
    let w = c.args.self.now in
    let xs : List Move = (state_in (g.C.Catalogue.meaning w.catalogue.now) w.part w.code).moves in
    comes_on xs w.number c.in_ok-step.step (sym c.in_ok-step.was ∙ c.move_at.ensures)

pub returns-clause-goes : goal.returns-clause-goes
unfolding moves_to_come
returns-clause-goes g c =
    let w = c.args.self.now in
    let xs : List Move = (state_in (g.C.Catalogue.meaning w.catalogue.now) w.part w.code).moves in
    let on = comes_on xs w.number c.in_ok-step.step (sym c.in_ok-step.was ∙ c.move_at.ensures) in
    let l : length (drop w.number xs) ≡ length (drop (w.number + 1) xs) + 1 = ap length on ∙ omega arith in
    firm (tt, tt, omega (arith, l)) (λ h. search rules)
