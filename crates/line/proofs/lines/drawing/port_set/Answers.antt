use Rattle.line.proofs.Planning.{port_all}
use Rattle.line.proofs.lines.drawing.port_set.Goals as goal

pub returns : goal.returns
returns c = port_all c.args.hidden.now c.loop-port.port-index c.loop-port.set c.loop-port.invariant c.loop-port-test.false
