use Rattle.std.proofs.Common.{ℕ, ◌+◌, ◌-◌, List, ◌++◌, length, string_bytes, ap, subst, arith}
use Rattle.action.specs.Lists.{each}
use Rattle.catalogue.specs.Catalogue.{Catalogue}
use Rattle.line.specs.Meaning.{line_of}
use Rattle.swaps_text.specs.Text.{counting, slot_trials, told}
use Rattle.swaps_text.specs.Trying.{Tried}
use Rattle.swaps_text.proofs.Histories.{counting_more, counting_all, counting_none, slots_more, slots_all}
use Rattle.swaps_text.proofs.try_all.Goals as goal

pub loop-slot-init : goal.loop-slot-init
loop-slot-init g c =
    let ms : Catalogue = g.C.Catalogue.meaning c.args.catalogue.now in
    ap (λ (x : List ℕ). string_bytes c.args.out.now ++ told ms (line_of c.args.line.now) (each (slot_trials (length c.args.table.now) (length ms)) x)) (counting_none (length (line_of c.args.line.now).slots))

pub loop-slot-preserved : goal.loop-slot-preserved
loop-slot-preserved g c =
    let ms : Catalogue = g.C.Catalogue.meaning c.args.catalogue.now in
    let n : ℕ = length (line_of c.args.line.now).slots in
    slots_more ms (line_of c.loop-slot.line) (line_of c.try_slot.new.line) (string_bytes c.loop-slot.out) (string_bytes c.try_slot.new.out) _ (length c.args.table.now) (length ms) c.loop-slot.slot (counting c.loop-slot.slot (n - c.loop-slot.slot)) (counting (c.loop-slot.slot + 1) (n - (c.loop-slot.slot + 1)))
    (counting_more c.loop-slot.slot n (omega (arith, c.slots-count.ensures)))
    (subst (λ k. Tried ms (line_of c.loop-slot.line) (line_of c.try_slot.new.line) (string_bytes c.loop-slot.out) (string_bytes c.try_slot.new.out) (slot_trials k (length ms) c.loop-slot.slot)) c.loop-slot.auto.table c.in_ok-try_slot.ensures)
    c.loop-slot.invariant

pub returns : goal.returns
returns g c =
    let ms : Catalogue = g.C.Catalogue.meaning c.args.catalogue.now in
    let n : ℕ = length (line_of c.args.line.now).slots in
    slots_all ms (line_of c.loop-slot.line) (string_bytes c.loop-slot.out) _ (length c.args.table.now) (length ms) (counting c.loop-slot.slot (n - c.loop-slot.slot))
    (counting_all c.loop-slot.slot n (omega (arith, c.slots-count.ensures, c.loop-slot-test.false))) c.loop-slot.invariant
