use Rattle.std.proofs.Common.{◌+◌, ◌&&◌, ◌||◌, ℤ, [], map, drop, get_or, sym, ap, ◌∙◌, subst, to_z-of_z, w8, SFits, rules}
use Rattle.std.proofs.lemmas.Bool.{eq-eqb, ne_eqb}
use Rattle.action.specs.Action.{is_action, same}
use Rattle.action.specs.declared.set.ActionSet.{ActionSet}
use Rattle.action.specs.Sets.{has}
use Rattle.table_format.specs.Numbers.{byte}
use Rattle.table_format.specs.Reading.{entry_record}
use Rattle.maker_table.proofs.Gather.{Gathering, gather_marked, gather_unmarked, gather_end, next_left, none_left}
use Rattle.maker_table.proofs.table.asking.marked_actions.Goals as goal
use Rattle.maker_table.proofs.table.asking.marked_actions.Goals.{then-mark-eq1, else-mark-eq1}

pub loop-action-preserved : goal.loop-action-preserved
loop-action-preserved c =
    let es = c.args.moves.now in
    let i = c.loop-action.action-index in
    let e = get_or es i [] in
    let all = map entry_record es in
    let left = map entry_record (drop i es) in
    let rest = map entry_record (drop (i + 1) es) in
    let p = next_left es i c.loop-action-test.true in
    elim c.if-mark-eq1.branch [
      | then-mark-eq1 w ↦ (
          let f : SFits w8 w.action_of.result = search rules in
          subst (λ (s : ActionSet). Gathering s rest all) (sym w.set-is)
          (gather_marked all left rest (entry_record e) c.loop-action.set p c.loop-action.invariant w.insert.new.self (eq-eqb (byte e 1) 1 w.if-mark-eq1.true)
          (λ a. w.insert.ensures a ∙ ap (λ (x : ℤ). has c.loop-action.set a || (is_action x && same x a)) (to_z-of_z f ∙ w.action_of.ensures))))
      | else-mark-eq1 w ↦ subst (λ (s : ActionSet). Gathering s rest all) (sym w.set-is)
          (gather_unmarked all left rest (entry_record e) c.loop-action.set p c.loop-action.invariant (ne_eqb (byte e 1) 1 w.if-mark-eq1.false))
    ]

pub returns : goal.returns
returns c = gather_end c.loop-action.set (map entry_record (drop c.loop-action.action-index c.args.moves.now)) (map entry_record c.args.moves.now) (none_left c.args.moves.now c.loop-action.action-index c.loop-action-test.false) c.loop-action.invariant
