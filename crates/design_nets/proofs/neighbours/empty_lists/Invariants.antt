use Rattle.std.proofs.Common.{[]}
use Rattle.graph_search.specs.Search.{AreNeighbours}
use Rattle.design_nets.proofs.neighbours.empty_lists.Given as goal

abbrev pub invariant-loop : goal.invariant-loop
invariant-loop l = AreNeighbours l.counter [] l.lists.items
