-- Why a line is not drawn, a swap not made and no time told, in print. Assumes nothing.
use Rattle.std.specs.Prelude.{ℕ, List, codes as ascii, decimal}
use Rattle.action.specs.Lists.{◌⧺◌}
use Rattle.line_rules.specs.declared.DrawFault.{DrawFault}
use Rattle.line_rules.specs.declared.SwapFault.{SwapFault}
use Rattle.line_rules.specs.declared.SwapFault.TheVariants.{UnknownSlot, Compare, Slower}
use Rattle.line_rules.specs.declared.TimeFault.{TimeFault}
use Rattle.line_rules.specs.Drawing.{draw_number}
use Rattle.line_rules.specs.Swapping.{swap_number}
use Rattle.line_rules.specs.Time.{time_number}

-- the number of the refusal; with 25 the rank: 25 3
abbrev pub draw_fault_text : DrawFault → List ℕ
draw_fault_text e = decimal (draw_number e)

abbrev pub swap_fault_text : SwapFault → List ℕ
swap_fault_text UnknownSlot = decimal (swap_number UnknownSlot)
swap_fault_text (Compare e) = decimal (swap_number (Compare e))
swap_fault_text (Slower rank) = decimal (swap_number (Slower rank)) ⧺ ascii " " ⧺ decimal rank

abbrev pub time_fault_text : TimeFault → List ℕ
time_fault_text e = decimal (time_number e)
