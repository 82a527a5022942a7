use Rattle.std.proofs.Common.{◌≡◌, false, List, [], map, length, take, pos, Some, None, Ok, Err, sym, ap, ◌∙◌, subst, inl, inr, arith, rules}
use Rattle.std.proofs.lemmas.Result.{err_from_is_err_and}
use Rattle.std.proofs.lemmas.Bool.{eqb-true}
use Rattle.action.specs.declared.set.ActionSet.{ActionSet}
use Rattle.action.specs.Sets.{has}
use Rattle.catalogue.specs.Catalogue.{Catalogue}
use Rattle.line_rules.specs.declared.DrawFault.TheVariants.{HiddenPort}
use Rattle.line_rules.specs.Line as rules
use Rattle.line_rules.specs.Drawing.{planned}
use Rattle.line_rules.proofs.Drawn.{draws, no_count, no_port, by_slots, ports_open}
use Rattle.line_rules.proofs.Example.{can_be_met}
use Rattle.line.specs.declared.lines.drawing.SlotPlan.{SlotPlan}
use Rattle.line.specs.Meaning.{slot_of, plans, Ported, Fitting}
use Rattle.line.proofs.Planning.{slot_more, slot_wrong, slot_all, plan_at, plans_long, not_none, draws_so}
use Rattle.line.proofs.lines.drawing.draw.Goals as goal

-- what is read where there is no plan
abbrev blank : SlotPlan
blank = record { holds = 0; entries = record { ref_ptr = (0, 0); now = [] } }

pub returns-then-is_empty : goal.returns-then-is_empty
returns-then-is_empty g c =
    let ms : Catalogue = g.C.Catalogue.meaning c.args.catalogue.now in
    let ps = c.args.slots.now in
    let hidden = c.args.hidden.now in
    let long = plans_long ps in
    record {
      answer = no_count ms (plans ps) hidden (elim c.then-is_empty.either [ inl e ↦ inl (long ∙ eqb-true (length ps) 0 (sym c.is_empty.ensures ∙ e)) | inr l ↦ inr (omega (arith, l.1)) ]);
      law = draws ms (plans ps) hidden;
      drawn = tt;
      promise = tt;
      possible = can_be_met;
    }

pub returns-in_err-hidden : goal.returns-in_err-hidden
returns-in_err-hidden g c =
    let ms : Catalogue = g.C.Catalogue.meaning c.args.catalogue.now in
    let ps = c.args.slots.now in
    let hidden = c.args.hidden.now in
    let long = plans_long ps in
    let some = not_none (length ps) (sym c.is_empty.ensures ∙ c.if-is_empty.false) in
    let few = c.if-slots-gt-MOST_SLOTS.false in
    let p = err_from_is_err_and c.from_residual.result c.from_residual.ensures.1 in
    let fault : c.in_err-hidden.field-0.0 ≡ HiddenPort = search rules in
    let none : c.port_set.result ≡ None = search rules in
    rw (p.1, p.2 ∙ fault) (record { answer = no_port ms (plans ps) hidden (omega arith) (omega arith) (subst (Ported hidden) none c.port_set.ensures); law = draws ms (plans ps) hidden; drawn = tt; promise = tt; possible = can_be_met })

pub returns-in_err-held : goal.returns-in_err-held
returns-in_err-held g c =
    let ms : Catalogue = g.C.Catalogue.meaning c.args.catalogue.now in
    let ps = c.args.slots.now in
    let hidden = c.args.hidden.now in
    let long = plans_long ps in
    let some = not_none (length ps) (sym c.is_empty.ensures ∙ c.if-is_empty.false) in
    let few = c.if-slots-gt-MOST_SLOTS.false in
    let i = c.loop-i.i in
    let opened : c.port_set.result ≡ Some c.in_ok-hidden.hidden = search rules in
    let good : Ported c.args.hidden.now (Some c.in_ok-hidden.hidden) = subst (Ported c.args.hidden.now) opened c.port_set.ensures in
    let p = err_from_is_err_and c.from_residual-in_err-held.result c.from_residual-in_err-held.ensures.1 in
    let e = c.in_err-held.field-0.0 in
    let wrong = slot_wrong ms (plans ps) i c.loop-i.held c.loop-i.invariant (omega arith) (omega (arith, c.loop-i-test.true)) e (subst (λ x. Fitting ms x (Err e)) (sym (plan_at ps i blank)) c.in_err-held.ensures) in
    rw (p.1, p.2) (record { answer = by_slots ms (plans ps) hidden (omega arith) (omega arith) good.0 ∙ wrong; law = draws ms (plans ps) hidden; drawn = tt; promise = tt; possible = can_be_met })

pub loop-i-preserved : goal.loop-i-preserved
loop-i-preserved g c =
    let ms : Catalogue = g.C.Catalogue.meaning c.args.catalogue.now in
    let ps = c.args.slots.now in
    let hidden = c.args.hidden.now in
    let long = plans_long ps in
    let few = c.if-slots-gt-MOST_SLOTS.false in
    let i = c.loop-i.i in
    let x = c.in_ok-held.field-0 in
    slot_more ms (plans ps) i c.loop-i.held c.loop-i.invariant (omega arith) (omega (arith, c.loop-i-test.true)) x (subst (λ y. Fitting ms y (Ok x)) (sym (plan_at ps i blank)) c.in_ok-held.ensures)

pub invariant_of-result : goal.invariant_of-result
invariant_of-result g c =
    let ps = c.args.slots.now in
    let opened : c.port_set.result ≡ Some c.in_ok-hidden.hidden = search rules in
    let good : Ported c.args.hidden.now (Some c.in_ok-hidden.hidden) = subst (Ported c.args.hidden.now) opened c.port_set.ensures in
    let some = not_none (length ps) (sym c.is_empty.ensures ∙ c.if-is_empty.false) in
    let few = c.if-slots-gt-MOST_SLOTS.false in
    let open' : has c.in_ok-hidden.hidden (pos 0) ≡ false = subst (λ (s : ActionSet). has s (pos 0) ≡ false) (sym good.1) (ports_open c.args.hidden.now good.0) in
    record { whole = c.loop-i.invariant.whole; some = some; few = few; unhidden = open' }

pub returns : goal.returns
returns g c =
    let ms : Catalogue = g.C.Catalogue.meaning c.args.catalogue.now in
    let ps = c.args.slots.now in
    let hidden = c.args.hidden.now in
    let long = plans_long ps in
    let some = not_none (length ps) (sym c.is_empty.ensures ∙ c.if-is_empty.false) in
    let few = c.if-slots-gt-MOST_SLOTS.false in
    let opened : c.port_set.result ≡ Some c.in_ok-hidden.hidden = search rules in
    let good : Ported c.args.hidden.now (Some c.in_ok-hidden.hidden) = subst (Ported c.args.hidden.now) opened c.port_set.ensures in
    let at_end : c.loop-i.i ≡ length ps = omega (arith, c.loop-i.auto.i-end, c.loop-i-test.false) in
    let all = slot_all ms (plans ps) c.loop-i.i c.loop-i.held c.loop-i.invariant (omega arith) in
    let held = ap (λ n. map slot_of (take n c.loop-i.held)) (sym at_end) ∙ all.1 in
    let is : ◌≡◌ {A = rules.Line} (record { slots = map slot_of (take (length ps) c.loop-i.held); hidden = c.in_ok-hidden.hidden }) (planned (plans ps) hidden) =
    ap {B = rules.Line} (λ (xs : List rules.Slot). record { slots = xs; hidden = c.in_ok-hidden.hidden }) held ∙ ap {B = rules.Line} (λ (s : ActionSet). record { slots = plans ps; hidden = s }) good.1
    in
    let r = draws_so ms (g.met.C.Catalogue.lawful c.args.catalogue.now) (plans ps) hidden _ (by_slots ms (plans ps) hidden (omega arith) (omega arith) good.0 ∙ all.0) is in
    record { answer = r.answer; law = draws ms (plans ps) hidden; drawn = r.drawn; promise = r.promise; possible = can_be_met }
