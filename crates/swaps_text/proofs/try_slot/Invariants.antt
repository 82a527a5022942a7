use Rattle.std.proofs.Common.{◌≡◌, ◌-◌, ◌++◌, map, length, string_bytes}
use Rattle.line_rules.specs.Swapping.{asked, after}
use Rattle.line.specs.Meaning.{line_of}
use Rattle.swaps_text.specs.Text.{counting, slot_trials, told}
use Rattle.swaps_text.proofs.try_slot.Given as goal

abbrev pub invariant-loop-part : goal.invariant-loop-part
invariant-loop-part g l =
    (after (g.C.Catalogue.meaning l.catalogue) (line_of l.line) (map (λ m. asked l.slot m (length l.initial.table)) (counting l.part (length (g.C.Catalogue.meaning l.catalogue) - l.part)))
    ≡ after (g.C.Catalogue.meaning l.catalogue) (line_of l.initial.line) (slot_trials (length l.initial.table) (length (g.C.Catalogue.meaning l.catalogue)) l.slot))
    × (string_bytes l.out ++ told (g.C.Catalogue.meaning l.catalogue) (line_of l.line) (map (λ m. asked l.slot m (length l.initial.table)) (counting l.part (length (g.C.Catalogue.meaning l.catalogue) - l.part)))
    ≡ string_bytes l.initial.out ++ told (g.C.Catalogue.meaning l.catalogue) (line_of l.initial.line) (slot_trials (length l.initial.table) (length (g.C.Catalogue.meaning l.catalogue)) l.slot))
