use Rattle.std.proofs.Common.{◌≡◌, ◌+◌, take}
use Rattle.jog_insert.specs.Jogs.{wires_in}
use Rattle.jog_insert.proofs.joints.wire_line.Given as goal

abbrev pub invariant-loop-at : goal.invariant-loop-at
invariant-loop-at l = l.left + wires_in (take l.at l.lines) ≡ l.fn.k
