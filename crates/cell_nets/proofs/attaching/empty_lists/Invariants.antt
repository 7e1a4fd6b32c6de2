use Rattle.std.proofs.Common.{[]}
use Rattle.graph_search.specs.Search.{AreNeighbours}
use Rattle.cell_nets.proofs.attaching.empty_lists.Given as goal

abbrev pub invariant-loop : goal.invariant-loop
invariant-loop l = AreNeighbours l.counter [] l.lists.items
