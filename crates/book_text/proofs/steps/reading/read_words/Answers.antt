use Rattle.std.proofs.Common.{◌≡◌, ℕ, List, [], sym, ap, ◌∙◌, subst}
use Rattle.book_words.specs.Shown.{words_at, Cut}
use Rattle.book_words.specs.declared.walk.Words.{Words}
use Rattle.book_text.proofs.Whole.{Going, going_first, going_more, ends_taken, ends_unfinished, leaves_unfinished}
use Rattle.book_text.proofs.steps.reading.read_words.Goals as goal

pub loop-found-init : goal.loop-found-init
loop-found-init c =
    let is = c.into_iter-found-iterator.ensures.into_iter_gives in
    let begins = c.of-found-items.ensures.begins in (
      tt,
      tt,
      ap (λ (w : Words). w.text.now) is ∙ begins.0,
      subst (λ (n : ℕ). Going c.args.text.now c.args.places.now c.args.modules.now c.new-parser.result c.args.places.now c.args.modules.now n)
          (sym (ap (λ (w : Words). w.at) is ∙ begins.1))
          (going_first c.args.text.now c.args.places.now c.args.modules.now c.new-parser.result c.new-parser.ensures),
    )

pub loop-found-preserved : goal.loop-found-preserved
loop-found-preserved c =
    let l = c.loop-found in
    let e = c.in-Some.ensures.steps in
    let i = l.invariant in
    let cut = subst (λ (t : List ℕ). Cut t l.found-iterator.at c.in-Some.found) i.2 e.0 in (
      tt,
      tt,
      e.1.0 ∙ i.2,
      subst (λ (n : ℕ). Going c.args.text.now c.args.places.now c.args.modules.now c.step.new.self c.step.new.places c.step.new.modules n) (sym e.1.1)
          (going_more c.args.text.now c.args.places.now c.args.modules.now l.parser l.places l.modules l.found-iterator.at
          c.in-Some.found c.step.new.self c.step.new.places c.step.new.modules cut i.3 c.step.auto.places c.step.auto.modules c.in_ok-step.ensures),
    )

pub returns-in_err-expect : goal.returns-in_err-expect
returns-in_err-expect c =
    let l = c.loop-found in
    let none = subst (λ (t : List ℕ). words_at t l.found-iterator.at ≡ []) l.invariant.2 c.in-None.ensures.steps.0 in
    leaves_unfinished c.args.text.now c.args.places.now c.args.modules.now l.places l.modules c.from_residual-in_err-expect.result _
    c.from_residual-in_err-expect.ensures.1 c.in_err-expect.ensures.1
    (ends_unfinished c.args.text.now c.args.places.now c.args.modules.now l.parser l.places l.modules l.found-iterator.at none l.invariant.3 c.in_err-expect.ensures.0)

pub returns : goal.returns
returns c =
    let l = c.loop-found in
    let none = subst (λ (t : List ℕ). words_at t l.found-iterator.at ≡ []) l.invariant.2 c.in-None.ensures.steps.0 in
    ends_taken c.args.text.now c.args.places.now c.args.modules.now l.parser l.places l.modules l.found-iterator.at none l.invariant.3 c.in_ok-expect.ensures
