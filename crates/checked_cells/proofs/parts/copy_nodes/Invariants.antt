use Rattle.std.proofs.Common.{◌≡◌, ◌++◌, map, take}
use Rattle.checked_cells.specs.CheckedCell.{copied_node}
use Rattle.checked_cells.proofs.parts.copy_nodes.Given as goal

-- the first nodes have been copied
abbrev pub invariant-loop-node : goal.invariant-loop-node
invariant-loop-node l = l.nodes.items ≡ l.initial.nodes.items
    ++ map (copied_node l.use_name l.shift.0 l.shift.1) (take l.node-index l.copied)
