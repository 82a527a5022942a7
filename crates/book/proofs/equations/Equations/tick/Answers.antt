use Rattle.std.proofs.Common.{ℕ, sym, ap, ◌∙◌, arith}
use Rattle.action.specs.Action.{internal}
use Rattle.action.specs.Sets.{has}
use Rattle.catalogue.specs.Catalogue.{State}
use Rattle.book.proofs.Walking.{depth_is}
use Rattle.book.proofs.Answering.{is_place, nowhere_told, no_tick, tick_on, tick_stays}
use Rattle.book.proofs.equations.Equations.tick.Goals as goal

pub returns-in_err-place : goal.returns-in_err-place
returns-in_err-place c = c.from_residual.ensures ∙ sym (ap (λ (x : State). x.tick) (nowhere_told c.args.self.now.places.now c.args.code c.in_err-place.ensures))

pub returns-then-contains : goal.returns-then-contains
returns-then-contains c = no_tick c.args.self.now.places.now c.args.code (c.in_ok-place.place, c.in_ok-place.age) c.in_ok-place.ensures (ap (λ s. has s internal) (sym c.urgent_at.ensures) ∙ sym c.contains.ensures ∙ c.if-contains.true)

pub returns-then-age-self : goal.returns-then-age-self
returns-then-age-self c =
    let ps = c.args.self.now.places.now in
    let s : ℕ × ℕ = (c.in_ok-place.place, c.in_ok-place.age) in
    let d = depth_is ps c.args.self.now.summaries.now c.args.self.now.known c.in_ok-place.place (is_place ps c.args.code s c.in_ok-place.ensures) in
    tick_on ps c.args.code s c.in_ok-place.ensures (ap (λ s. has s internal) (sym c.urgent_at.ensures) ∙ sym c.contains.ensures ∙ c.if-contains.false) (omega (arith, d))

pub returns-else-age-self : goal.returns-else-age-self
returns-else-age-self c =
    let ps = c.args.self.now.places.now in
    let s : ℕ × ℕ = (c.in_ok-place.place, c.in_ok-place.age) in
    let d = depth_is ps c.args.self.now.summaries.now c.args.self.now.known c.in_ok-place.place (is_place ps c.args.code s c.in_ok-place.ensures) in
    tick_stays ps c.args.code s c.in_ok-place.ensures (ap (λ s. has s internal) (sym c.urgent_at.ensures) ∙ sym c.contains.ensures ∙ c.if-contains.false) (omega (arith, d))
