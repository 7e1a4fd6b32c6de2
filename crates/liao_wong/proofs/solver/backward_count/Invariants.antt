use Rattle.std.{proofs.Common.{◌≡◌, length}, specs.List.range_with_len}
use Rattle.liao_wong.specs.Going.{backward_of}
use Rattle.liao_wong.proofs.solver.backward_count.Given as goal

abbrev pub invariant-loop-edge : goal.invariant-loop-edge
invariant-loop-edge l = l.count ≡ length (backward_of l.edges l.order.variables.now (range_with_len 0 l.edge-index))
