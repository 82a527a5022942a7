use Rattle.std.proofs.Common.{◌≡◌, ℕ, ◌+◌, ◌-◌, List, ◌++◌, map, length, string_bytes, Result, ap, ◌∙◌, arith}
use Rattle.catalogue.specs.Catalogue.{Catalogue}
use Rattle.line_rules.specs.declared.SwapFault.{SwapFault}
use Rattle.line_rules.specs.Swapping.{Swap, asked, swap_answer, swapped, after}
use Rattle.line.specs.Meaning.{line_of}
use Rattle.swaps_text.specs.Text.{counting, slot_trials, trial_line, told}
use Rattle.swaps_text.proofs.Histories.{counting_more, counting_all, counting_none, tried_more, tried_all}
use Rattle.swaps_text.proofs.try_slot.Goals as goal

pub loop-part-init : goal.loop-part-init
loop-part-init g c =
    let ms : Catalogue = g.C.Catalogue.meaning c.args.catalogue.now in
    let f : List ℕ → List Swap = map (λ m. asked c.args.slot m (length c.args.table.now)) in (
      ap (λ (x : List ℕ). after ms (line_of c.args.line.now) (f x)) (counting_none (length ms)),
      ap (λ (x : List ℕ). string_bytes c.args.out.now ++ told ms (line_of c.args.line.now) (f x)) (counting_none (length ms)),
    )

pub loop-part-preserved : goal.loop-part-preserved
loop-part-preserved g c =
    let ms : Catalogue = g.C.Catalogue.meaning c.args.catalogue.now in
    let f : List ℕ → List Swap = map (λ m. asked c.args.slot m (length c.args.table.now)) in
    let w : Swap = asked c.args.slot c.loop-part.part (length c.args.table.now) in
    let t : length c.loop-part.table ≡ length c.args.table.now = c.loop-part.auto.table in
    tried_more ms (line_of c.args.line.now) (line_of c.loop-part.line) (line_of c.swap-outcome.new.self) (string_bytes c.args.out.now) (string_bytes c.loop-part.out) (string_bytes c.add_trial.new.out) (slot_trials (length c.args.table.now) (length ms) c.args.slot) (f (counting c.loop-part.part (length ms - c.loop-part.part))) (f (counting (c.loop-part.part + 1) (length ms - (c.loop-part.part + 1)))) w
    (ap f (counting_more c.loop-part.part (length ms) (omega (arith, c.modules-count.ensures))))
    (c.swap-outcome.ensures.line ∙ ap (λ n. swapped ms (line_of c.loop-part.line) (asked c.args.slot c.loop-part.part n)) t)
    (c.in_ok-add_trial.ensures ∙ ap (λ (r : Result ℕ SwapFault). string_bytes c.loop-part.out ++ trial_line c.args.slot c.loop-part.part r) (c.swap-outcome.ensures.answer ∙ ap (λ n. swap_answer ms (line_of c.loop-part.line) (asked c.args.slot c.loop-part.part n)) t))
    c.loop-part.invariant

pub returns : goal.returns
returns g c =
    let ms : Catalogue = g.C.Catalogue.meaning c.args.catalogue.now in
    let f : List ℕ → List Swap = map (λ m. asked c.args.slot m (length c.args.table.now)) in
    tried_all ms (line_of c.args.line.now) (line_of c.loop-part.line) (string_bytes c.args.out.now) (string_bytes c.loop-part.out) (slot_trials (length c.args.table.now) (length ms) c.args.slot) (f (counting c.loop-part.part (length ms - c.loop-part.part)))
    (ap f (counting_all c.loop-part.part (length ms) (omega (arith, c.modules-count.ensures, c.loop-part-test.false)))) c.loop-part.invariant
