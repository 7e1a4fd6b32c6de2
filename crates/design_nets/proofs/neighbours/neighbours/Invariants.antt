use Rattle.std.proofs.Common.{take}
use Rattle.graph_search.specs.Search.{AreNeighbours}
use Rattle.design_nets.proofs.neighbours.neighbours.Given as goal

abbrev pub invariant-loop-a : goal.invariant-loop-a
invariant-loop-a l = AreNeighbours l.count (take l.a-index l.links) l.lists.items
