use Rattle.line.proofs.Planning.{PortsSoFar}
use Rattle.line.proofs.lines.drawing.port_set.Given as goal

abbrev pub invariant-loop-port : goal.invariant-loop-port
invariant-loop-port l = PortsSoFar l.hidden l.port-index l.set
