use Rattle.std.proofs.Common.{take, All}
use Rattle.cons_graph.specs.Solutions.{Meets, value_of}
use Rattle.first_pass.proofs.shown.are_met.Given as goal

abbrev pub invariant-loop-edge : goal.invariant-loop-edge
invariant-loop-edge l = All (Meets (value_of l.x)) (take l.edge-index l.edges)
