use Rattle.std.{proofs.Common.{◌≡◌, ◌++◌}, specs.List.{filter_map, range_with_len}}
use Rattle.design_gen.specs.Made.{node_at}
use Rattle.design_gen.proofs.lines.push_nodes.Given as goal

abbrev pub invariant-loop-k : goal.invariant-loop-k
invariant-loop-k l = l.forms.items ≡ l.fn.forms.items ++ filter_map (node_at l.n) (range_with_len 0 l.k)
