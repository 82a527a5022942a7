use Rattle.std.proofs.Common.{◌≡◌, min, not, is_some, length, sym, ap, ◌∙◌, arith}
use Rattle.action.specs.Lists.{every}
use Rattle.action.specs.Action.{internal}
use Rattle.action.specs.Sets.{has}
use Rattle.catalogue.specs.Catalogue.{Catalogue, state_in}
use Rattle.line_rules.specs.Time.{slot_ticks, gathers}
use Rattle.line_rules.proofs.Gathering.{urgents_is}
use Rattle.line_rules.proofs.Worked.{worked}
use Rattle.line.specs.Meaning.{line_of}
use Rattle.line.proofs.Timing.{ticks_calm, ticks_not, stands_wide, not_known, not_a_state, told, truly, knows_all, asks_all}
use Rattle.line.proofs.Held.{count_is}
use Rattle.line.proofs.lines.Line.time.Goals as goal

pub returns-then-not-is_known : goal.returns-then-not-is_known
returns-then-not-is_known g c =
    let ms : Catalogue = g.C.Catalogue.meaning c.args.catalogue.now in
    record { answer = not_known c.args.self.now ms c.args.state.now (c.if-not-is_known.ensures ∙ knows_all c.args.self.now ms); tells = tt; worked = worked }

pub returns-then-not-stands : goal.returns-then-not-stands
returns-then-not-stands g c =
    let ms : Catalogue = g.C.Catalogue.meaning c.args.catalogue.now in
    record { answer = not_a_state c.args.self.now ms c.args.state.now (c.if-not-is_known.ensures ∙ knows_all c.args.self.now ms) c.if-not-stands.ensures; tells = tt; worked = worked }

pub returns-then-not-contains : goal.returns-then-not-contains
returns-then-not-contains g c =
    let ms : Catalogue = g.C.Catalogue.meaning c.args.catalogue.now in
    let l = c.args.self.now in
    let s = c.args.state.now in
    let known = c.if-not-is_known.ensures ∙ knows_all l ms in
    let state = c.if-not-stands.ensures in
    let wide = stands_wide l ms s state in
    let width : min l.count (length s) ≡ length (line_of l).slots = omega (arith, wide, count_is l) in
    let urgent = urgents_is ms (line_of l) s c.gathered.result c.shown-urgent.result (λ a. c.gathered.ensures a ∙ ap (λ n. gathers ms (line_of l) s n a) width) c.shown-urgent.ensures in
    let every_tick = every (length (line_of l).slots) (slot_ticks ms (line_of l) s) in
    let ticking = c.all_tick-ticks.ensures ∙ asks_all l (λ y k. is_some (state_in ms y.holds k).tick) s wide ∙ ticks_calm every_tick (has c.shown-urgent.result internal) (sym c.contains.ensures ∙ c.if-not-contains.true) in
    record { answer = told l ms s known state _ urgent ticking; tells = truly l ms s known state _ urgent ticking; worked = worked }

pub returns-else-not-contains : goal.returns-else-not-contains
returns-else-not-contains g c =
    let ms : Catalogue = g.C.Catalogue.meaning c.args.catalogue.now in
    let l = c.args.self.now in
    let s = c.args.state.now in
    let known = c.if-not-is_known.ensures ∙ knows_all l ms in
    let state = c.if-not-stands.ensures in
    let wide = stands_wide l ms s state in
    let width : min l.count (length s) ≡ length (line_of l).slots = omega (arith, wide, count_is l) in
    let urgent = urgents_is ms (line_of l) s c.gathered.result c.shown-urgent.result (λ a. c.gathered.ensures a ∙ ap (λ n. gathers ms (line_of l) s n a) width) c.shown-urgent.ensures in
    let every_tick = every (length (line_of l).slots) (slot_ticks ms (line_of l) s) in
    let is = c.contains.ensures in
    let ticking = ap not is ∙ ticks_not every_tick (has c.shown-urgent.result internal) (sym is ∙ c.if-not-contains.false) in
    record { answer = told l ms s known state _ urgent ticking; tells = truly l ms s known state _ urgent ticking; worked = worked }
