use Rattle.std.proofs.Common.{◌≡◌, ◌-◌, ◌++◌, length, string_bytes}
use Rattle.action.specs.Lists.{each}
use Rattle.line.specs.Meaning.{line_of}
use Rattle.swaps_text.specs.Text.{counting, slot_trials, trials, told}
use Rattle.swaps_text.proofs.try_all.Given as goal

abbrev pub invariant-loop-slot : goal.invariant-loop-slot
invariant-loop-slot g l =
    string_bytes l.out ++ told (g.C.Catalogue.meaning l.catalogue) (line_of l.line) (each (slot_trials (length l.initial.table) (length (g.C.Catalogue.meaning l.catalogue))) (counting l.slot (length (line_of l.initial.line).slots - l.slot)))
    ≡ string_bytes l.initial.out ++ told (g.C.Catalogue.meaning l.catalogue) (line_of l.initial.line) (trials (length l.initial.table) (length (g.C.Catalogue.meaning l.catalogue)) (length (line_of l.initial.line).slots))
