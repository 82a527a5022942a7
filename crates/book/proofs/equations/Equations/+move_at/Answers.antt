use Rattle.std.proofs.Common.{◌*◌, ◌∙◌, arith, w8, SFits, rules}
use Rattle.std.proofs.lemmas.Int.{to_z-of_z}
use Rattle.rows.specs.declared.row.Place.TheVariants.{Sum}
use Rattle.book.proofs.Walking.{followed_row, next_on, move_nil, move_act, move_on, move_left, move_right}
use Rattle.book.proofs.equations.Equations.+move_at.Goals as goal

pub move_at-requires : goal.move_at-requires
move_at-requires t c =
    let n = followed_row c.args.self.now.places.now c.args.self.now.known.well_formed c.args.place (Sum c.in-Sum.l c.in-Sum.r) c.requires c.in-Sum.is in
    (omega (arith, n.0.1), n.0.0)

pub move_at-requires-else-number-before : goal.move_at-requires-else-number-before
move_at-requires-else-number-before t c =
    let n = followed_row c.args.self.now.places.now c.args.self.now.known.well_formed c.args.place (Sum c.in-Sum.l c.in-Sum.r) c.requires c.in-Sum.is in
    (omega (arith, n.1.1), n.1.0)

pub move_at-requires-in-Wait : goal.move_at-requires-in-Wait
move_at-requires-in-Wait t c =
    let n = next_on c.args.self.now.places.now c.args.self.now.known.well_formed c.args.place c.in-Wait.j c.requires c.in-Wait.is in
    (omega (arith, n.1), n.0)

pub returns-in-Nil : goal.returns-in-Nil
returns-in-Nil t c = move_nil c.args.self.now.places.now c.args.self.now.summaries.now c.args.self.now.known c.args.place c.requires c.args.number c.in-Nil.is

pub returns-in-Act : goal.returns-in-Act
returns-in-Act t c =
    let f : SFits w8 c.in-Act.action = search rules in
    c.then_some.ensures ∙ move_act c.args.self.now.places.now c.args.self.now.summaries.now c.args.self.now.known c.args.place c.requires c.args.number c.in-Act.j (16 * c.in-Act.j) c.in-Act.action _ c.in-Act.is (to_z-of_z w8 c.in-Act.action f) (omega arith)

pub returns-then-number-before : goal.returns-then-number-before
returns-then-number-before t c =
    let n = followed_row c.args.self.now.places.now c.args.self.now.known.well_formed c.args.place (Sum c.in-Sum.l c.in-Sum.r) c.requires c.in-Sum.is in
    c.move_at.ensures ∙ move_left c.args.self.now.places.now c.args.self.now.summaries.now c.args.self.now.known c.args.place c.requires c.args.number c.in-Sum.l c.in-Sum.r c.in-Sum.is n.0.0 c.if-number-before.true

pub returns-else-number-before : goal.returns-else-number-before
returns-else-number-before t c =
    let n = followed_row c.args.self.now.places.now c.args.self.now.known.well_formed c.args.place (Sum c.in-Sum.l c.in-Sum.r) c.requires c.in-Sum.is in
    c.move_at-else-number-before.ensures ∙ move_right c.args.self.now.places.now c.args.self.now.summaries.now c.args.self.now.known c.args.place c.requires c.args.number c.in-Sum.l c.in-Sum.r c.in-Sum.is n.0.0 c.if-number-before.false

pub returns-in-Wait : goal.returns-in-Wait
returns-in-Wait t c = c.move_at-in-Wait.ensures ∙ move_on c.args.self.now.places.now c.args.self.now.summaries.now c.args.self.now.known c.args.place c.requires c.args.number c.in-Wait.j c.in-Wait.is
