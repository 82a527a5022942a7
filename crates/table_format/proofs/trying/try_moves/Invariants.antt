use Rattle.std.proofs.Common.{◌≡◌, ◌+◌, ◌-◌, ◌*◌}
use Rattle.table_format.specs.Numbers.{byte}
use Rattle.table_format.specs.Taking.{moves_fault}
use Rattle.table_format.proofs.trying.try_moves.Given as goal

abbrev pub invariant-loop-i : goal.invariant-loop-i
invariant-loop-i l =
    let count = byte l.state.bytes.now (l.state.at + 4) in
    let from = l.state.at + 5 in
    moves_fault l.state.bytes.now l.codes (count - l.i) (from + 4 * l.i) ≡ moves_fault l.state.bytes.now l.codes count from
