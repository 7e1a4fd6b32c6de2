use Rattle.std.{proofs.Common.{◌≡◌, ◌++◌, filter}, specs.List.range_with_len}
use Rattle.mask_out.specs.Masks.{is_drawn}
use Rattle.pair_rules.specs.Bound.{item_at}
use Rattle.design_nets.proofs.masters.push_layer.Given as goal

abbrev pub invariant-loop-n : goal.invariant-loop-n
invariant-loop-n l = l.drawn.items ≡ l.initial.drawn.items ++ filter (λ n. is_drawn l.layer (item_at l.items n).class)
    (range_with_len 0 l.n)
