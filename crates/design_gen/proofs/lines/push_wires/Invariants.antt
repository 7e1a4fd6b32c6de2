use Rattle.std.{proofs.Common.{◌≡◌, ◌++◌}, specs.List.{filter_map, range_with_len}}
use Rattle.design_gen.specs.Made.{wire_at}
use Rattle.design_gen.proofs.lines.push_wires.Given as goal

abbrev pub invariant-loop-k : goal.invariant-loop-k
invariant-loop-k l = l.forms.items ≡ l.fn.forms.items ++ filter_map (wire_at l.n) (range_with_len 0 l.k)
