use Rattle.std.proofs.Common.{◌≡◌, ◌++◌, take, map}
use Rattle.expand.specs.NodeItems.{item_running}
use Rattle.expand.proofs.nodes.push_running.Given as goal

abbrev pub invariant-loop-item : goal.invariant-loop-item
invariant-loop-item l = l.list.items ≡ l.initial.list.items ++ map (item_running l.along) (take l.item-index l.items)
