use Rattle.std.proofs.Common.{◌≡◌, ◌<◌, ℕ, ◌+◌, List, length, get_or, Option, Bor, ap, ◌∙◌, subst, arith}
use Rattle.std.specs.Slice.{IsItemAt}
use Rattle.rows.specs.declared.row.ModuleRow.{ModuleRow}
use Rattle.book_words.specs.Words.Kind.{leave}
use Rattle.book_text.specs.declared.parser.Label.{Label}
use Rattle.book_text.specs.Parsers.{view}
use Rattle.book_text.proofs.Finding.{no_label}
use Rattle.book_text.proofs.Leaving.{leave_no, leave_empty, leave_lost, leave_does}
use Rattle.book_text.proofs.Trying.{not_here, refuses, lacks, stopped, missing}
use Rattle.book_text.proofs.parser.Parser.on_leave.Goals as goal

pub returns-in_err-expect : goal.returns-in_err-expect
returns-in_err-expect c =
    not_here c.args.text.now c.args.self.now c.args.places.now c.args.modules.now leave c.args.self.now.at _ _ c.from_residual.ensures.1
    (leave_no c.args.text.now c.args.self.now c.args.places.now c.args.modules.now c.args.self.now.at c.requires c.in_err-expect.ensures.0) c.in_err-expect.ensures.1

pub returns-in_err-start : goal.returns-in_err-start
returns-in_err-start c =
    let d = c.args.self.now in
    let P = c.args.places.now in
    let M = c.args.modules.now in
    let text = c.args.text.now in
    let item = subst (λ (o : Option (Bor Label)). IsItemAt c.deref.result.now 0 o) c.in_err-start.ensures.ok_part c.first.ensures.item in
    let none : length d.lefts.items ≡ 0 = omega (arith, ap length c.deref.ensures.0, item.3) in
    refuses (length P) (length M) (length text) (view text d P M) leave d.at _ _ c.in_err-start.field-0.0 c.from_residual-in_err-start.result c.from_residual-in_err-start.ensures.1
    (stopped (length P) (length M) (view text d P M) leave d.at _ (leave_empty text d P M d.at c.requires c.in_ok-expect.ensures none) (missing _ _ _ c.in_err-start.ensures.value))

pub returns-in_err-settle : goal.returns-in_err-settle
returns-in_err-settle c =
    let d = c.args.self.now in
    let item = subst (λ (o : Option (Bor Label)). IsItemAt c.deref.result.now 0 o) c.in_ok-start.ensures.ok_part c.first.ensures.item in
    let some : 0 < length d.lefts.items = omega (arith, ap length c.deref.ensures.0, item.3.0) in
    refuses (length c.args.places.now) (length c.args.modules.now) (length c.args.text.now) (view c.args.text.now d c.args.places.now c.args.modules.now) leave c.args.self.now.at
    (view c.args.text.now d c.settle.new.places c.args.modules.now) d _ c.from_residual-in_err-settle.result c.from_residual-in_err-settle.ensures.1
    (lacks (length c.args.places.now) (length c.args.modules.now) (view c.args.text.now d c.args.places.now c.args.modules.now) leave c.args.self.now.at _
    (leave_lost c.args.text.now d c.args.places.now c.args.modules.now c.args.self.now.at c.requires c.in_ok-expect.ensures some c.in_err-settle.ensures.0) c.in_err-settle.ensures.1)

pub returns : goal.returns
returns c =
    let d = c.args.self.now in
    let item = subst (λ (o : Option (Bor Label)). IsItemAt c.deref.result.now 0 o) c.in_ok-start.ensures.ok_part c.first.ensures.item in
    let some : 0 < length d.lefts.items = omega (arith, ap length c.deref.ensures.0, item.3.0) in
    let start = c.from-start.ensures ∙ ap (λ (l : Label). l.place) (item.3.1 no_label) ∙ ap (λ (ls : List Label). (get_or ls 0 no_label).place) c.deref.ensures.0 in
    leave_does c.args.text.now d c.args.places.now c.args.modules.now c.args.self.now.at c.requires c.settle.new.places _ c.clear.new.self.items _
    c.settle.auto.places c.in_ok-expect.ensures some c.in_ok-settle.ensures (ap (λ (n : ℕ). d.first + n) c.from-2.ensures) c.clear.ensures
    (ap {B = ModuleRow} (λ (n : ℕ). record { first = d.first; places = n; start = c.from-start.result }) c.from.ensures
    ∙ ap {B = ModuleRow} (λ (n : ℕ). record { first = d.first; places = d.rows; start = n }) start)
