use Rattle.std.{proofs.Common.{◌≡◌, ◌++◌}, specs.List.{flat_map, range_with_len}}
use Rattle.expand.specs.Items.{items_of_wire}
use Rattle.expand.proofs.items.push_wires.Given as goal

abbrev pub invariant-loop-k : goal.invariant-loop-k
invariant-loop-k l = l.list.items ≡ l.initial.list.items ++ flat_map (items_of_wire l.tech l.cell l.nets)
    (range_with_len 0 l.k)
