use Rattle.std.proofs.Common.{◌≡◌, ◌++◌, drop, string_bytes}
use Rattle.action.specs.Lists.{each}
use Rattle.comparison_text.specs.Text.{row_line}
use Rattle.comparison_text.proofs.add_rows.Given as goal

abbrev pub invariant-loop-row : goal.invariant-loop-row
invariant-loop-row l = string_bytes l.out ++ each row_line (drop l.row-index l.rows) ≡ string_bytes l.initial.out ++ each row_line l.rows
