use Rattle.std.{proofs.Common.◌≡◌, specs.List.range_with_len}
use Rattle.solve_bench.proofs.made.variables.Given as goal

abbrev pub invariant-loop-v : goal.invariant-loop-v
invariant-loop-v l = l.order.items ≡ range_with_len 0 l.v
