use Rattle.solve_bench.proofs.Reaching.{AreReaching}
use Rattle.solve_bench.proofs.made.spokes.Given as goal

abbrev pub invariant-loop-v : goal.invariant-loop-v
invariant-loop-v l = AreReaching l.fn.vars l.v l.edges.items
