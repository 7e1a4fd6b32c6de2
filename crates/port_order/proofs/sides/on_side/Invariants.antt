use Rattle.std.proofs.Common.{◌≡◌, filter, take}
use Rattle.plan_model.specs.Borders.{is_on_side}
use Rattle.port_order.proofs.sides.on_side.Given as goal

abbrev pub invariant-loop-port : goal.invariant-loop-port
invariant-loop-port l = l.found.items ≡ filter (is_on_side l.side) (take l.port-index l.ports)
