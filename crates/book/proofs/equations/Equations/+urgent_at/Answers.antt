use Rattle.std.proofs.Common.{◌&&◌, ap, ◌∙◌, arith, w8, SFits, rules}
use Rattle.std.proofs.lemmas.Int.{to_z-of_z}
use Rattle.action.specs.Action.{is_action, same}
use Rattle.rows.specs.declared.row.Place.TheVariants.{Wait, Sum, Name}
use Rattle.book.proofs.Walking.{followed_row, urgent_nil, urgent_act, urgent_early, urgent_waited, urgent_sum, urgent_name, urgent_quiet}
use Rattle.book.proofs.equations.Equations.+urgent_at.Goals as goal

pub urgent_at-returns-then-self-place-eq0 : goal.urgent_at-returns-then-self-place-eq0
urgent_at-returns-then-self-place-eq0 t c = urgent_quiet c.args.self.now.places.now c.args.self.now.summaries.now c.args.self.now.known c.args.place c.requires c.empty.result c.args.age c.if-self-place-eq0.true c.empty.ensures

pub urgent_below-urgent_at-requires : goal.urgent_below-urgent_at-requires
urgent_below-urgent_at-requires t c =
    let n = followed_row c.args.self.now.places.now c.args.self.now.known.well_formed c.args.place (Wait c.in-Wait-2.j) c.requires c.in-Wait-2.is in
    (omega (arith, n.1), n.0)

pub urgent_below-urgent_at-left-requires : goal.urgent_below-urgent_at-left-requires
urgent_below-urgent_at-left-requires t c =
    let n = followed_row c.args.self.now.places.now c.args.self.now.known.well_formed c.args.place (Sum c.in-Sum.l c.in-Sum.r) c.requires c.in-Sum.is in
    (omega (arith, n.0.1), n.0.0)

pub urgent_below-urgent_at-requires-in-Sum : goal.urgent_below-urgent_at-requires-in-Sum
urgent_below-urgent_at-requires-in-Sum t c =
    let n = followed_row c.args.self.now.places.now c.args.self.now.known.well_formed c.args.place (Sum c.in-Sum.l c.in-Sum.r) c.requires c.in-Sum.is in
    (omega (arith, n.1.1), n.1.0)

pub urgent_below-urgent_at-requires-in-Name : goal.urgent_below-urgent_at-requires-in-Name
urgent_below-urgent_at-requires-in-Name t c =
    let n = followed_row c.args.self.now.places.now c.args.self.now.known.well_formed c.args.place (Name c.in-Name.j) c.requires c.in-Name.is in
    (omega (arith, n.1), n.0)

pub urgent_below-returns-in-Nil : goal.urgent_below-returns-in-Nil
urgent_below-returns-in-Nil t c = urgent_nil c.args.self.now.places.now c.args.self.now.known.well_formed c.empty.result c.args.place c.requires c.args.age c.in-Nil.is c.empty.ensures

pub urgent_below-returns-in-Act : goal.urgent_below-returns-in-Act
urgent_below-returns-in-Act t c =
    let f : SFits w8 c.in-Act.action = search rules in
    urgent_act c.args.self.now.places.now c.args.self.now.known.well_formed c.only.result c.args.place c.requires c.args.age c.in-Act.field-1 c.in-Act.action c.in-Act.is
    (λ a. c.only.ensures a ∙ ap (λ x. is_action x && same x a) (to_z-of_z w8 c.in-Act.action f))

pub urgent_below-returns-in-Wait : goal.urgent_below-returns-in-Wait
urgent_below-returns-in-Wait t c = urgent_early c.args.self.now.places.now c.args.self.now.known.well_formed c.empty-in-Wait.result c.args.place c.requires c.args.age c.in-Wait.field-0 c.in-Wait.is c.if-age-eq0.true c.empty-in-Wait.ensures

pub urgent_below-returns-in-Wait-2 : goal.urgent_below-returns-in-Wait-2
urgent_below-returns-in-Wait-2 t c = urgent_waited c.args.self.now.places.now c.args.self.now.known.well_formed c.urgent_at.result c.args.place c.requires c.args.age c.in-Wait-2.j c.in-Wait-2.is c.if-age-eq0.false c.urgent_at.ensures

pub urgent_below-returns-in-Sum : goal.urgent_below-returns-in-Sum
urgent_below-returns-in-Sum t c = urgent_sum c.args.self.now.places.now c.args.self.now.known.well_formed c.union.result c.args.place c.requires c.args.age c.in-Sum.l c.in-Sum.r c.urgent_at-left.result c.urgent_at-in-Sum.result c.in-Sum.is c.urgent_at-left.ensures c.urgent_at-in-Sum.ensures c.union.ensures

pub urgent_below-returns-in-Name : goal.urgent_below-returns-in-Name
urgent_below-returns-in-Name t c = urgent_name c.args.self.now.places.now c.args.self.now.known.well_formed c.urgent_at-in-Name.result c.args.place c.requires c.args.age c.in-Name.j c.in-Name.is c.urgent_at-in-Name.ensures
