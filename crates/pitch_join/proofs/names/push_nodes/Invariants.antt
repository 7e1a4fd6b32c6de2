use Rattle.std.proofs.Common.{◌≡◌, ◌++◌, map, take}
use Rattle.cell_model.specs.declared.cell.Node.{Node}
use Rattle.pitch_join.specs.Names.{within_cell}
use Rattle.pitch_join.proofs.names.push_nodes.Given as goal

abbrev pub invariant-loop-node : goal.invariant-loop-node
invariant-loop-node l = l.names ≡ l.initial.names ++ map (λ (node : Node). within_cell l.cell node.name)
    (take l.node-index l.cell.nodes)
