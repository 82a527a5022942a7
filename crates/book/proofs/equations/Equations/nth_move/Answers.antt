use Rattle.std.proofs.Common.{ℕ, sym, ap, ◌∙◌}
use Rattle.action.specs.Lists.{nth}
use Rattle.catalogue.specs.Catalogue.{State}
use Rattle.book.proofs.Walking.{move_none}
use Rattle.book.proofs.Answering.{is_place, state_told, nowhere_told}
use Rattle.book.proofs.equations.Equations.nth_move.Goals as goal

pub returns-in_err-place : goal.returns-in_err-place
returns-in_err-place c = c.from_residual.ensures ∙ sym (ap (λ (x : State). nth x.moves c.args.number) (nowhere_told c.args.self.now.places.now c.args.code c.in_err-place.ensures))

pub returns-then-number-self : goal.returns-then-number-self
returns-then-number-self c =
    let ps = c.args.self.now.places.now in
    let s : ℕ × ℕ = (c.in_ok-place.place, c.in_ok-place.field-0-1) in
    move_none ps c.args.self.now.summaries.now c.args.self.now.known c.in_ok-place.place (is_place ps c.args.code s c.in_ok-place.ensures) c.args.number c.if-number-self.true
    ∙ sym (ap (λ (x : State). nth x.moves c.args.number) (state_told ps c.args.code s c.in_ok-place.ensures))

pub returns : goal.returns
returns c = c.move_at.ensures ∙ sym (ap (λ (x : State). nth x.moves c.args.number) (state_told c.args.self.now.places.now c.args.code (c.in_ok-place.place, c.in_ok-place.field-0-1) c.in_ok-place.ensures))
