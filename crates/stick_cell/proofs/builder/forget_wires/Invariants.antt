use Rattle.std.proofs.Common.{◌≡◌, ◌++◌, map, take, drop}
use Rattle.stick_cell.specs.CellBuilder.{without_wire}
use Rattle.stick_cell.proofs.builder.forget_wires.Given as goal

abbrev pub invariant-loop-port : goal.invariant-loop-port
invariant-loop-port l = l.port-items ≡ map without_wire (take l.port-index l.fn.ports.items)
    ++ drop l.port-index l.fn.ports.items
