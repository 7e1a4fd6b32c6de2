use Rattle.std.proofs.Common.{◌≡◌, ◌≤◌, take}
use Rattle.expand.specs.Variables.{running}
use Rattle.expand.proofs.variables.running.Given as goal

abbrev pub invariant-loop-wire : goal.invariant-loop-wire
invariant-loop-wire l = (l.count ≡ running l.along (take l.wire-index l.wires)) × (l.count ≤ l.wire-index)
