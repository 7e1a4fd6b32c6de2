use Rattle.std.proofs.Common.{take}
use Rattle.cell_model.specs.Nets.{parts_of, node_parts, attachments}
use Rattle.graph_search.specs.Search.{AreNeighbours}
use Rattle.cell_nets.proofs.attaching.neighbours.Given as goal

abbrev pub invariant-loop-k : goal.invariant-loop-k
invariant-loop-k l =
    AreNeighbours (parts_of l.cell) (attachments l.cell.nodes (node_parts l.cell.nodes) (take l.k l.cell.wires))
    l.lists.items
