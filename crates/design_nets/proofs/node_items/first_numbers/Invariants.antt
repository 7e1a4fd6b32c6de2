use Rattle.std.{proofs.Common.◌≡◌, specs.List.range_with_len}
use Rattle.design_nets.proofs.node_items.first_numbers.Given as goal

abbrev pub invariant-loop-n : goal.invariant-loop-n
invariant-loop-n l = l.numbers.items ≡ range_with_len 0 l.n
