use Rattle.std.proofs.Common.{All, take}
use Rattle.cons_graph.specs.Solutions.{Meets, value_of}
use Rattle.cons_graph.proofs.constraint_graph.Graph.holds.Given as goal

abbrev pub invariant-loop-edge : goal.invariant-loop-edge
invariant-loop-edge l = All (Meets (value_of l.x)) (take l.edge-index l.self.edges)
