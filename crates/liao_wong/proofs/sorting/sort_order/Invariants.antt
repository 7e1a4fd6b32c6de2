use Rattle.std.{proofs.Common.◌≡◌, specs.List.range_with_len}
use Rattle.liao_wong.proofs.sorting.sort_order.Given as goal

abbrev pub invariant-loop-v : goal.invariant-loop-v
invariant-loop-v l = l.order.items ≡ range_with_len 0 l.v
