use Rattle.std.proofs.Common.{◌≡◌, filter, take}
use Rattle.plan_model.specs.{Plan.is_of_two, Rows.{firsts, is_pair_either_way}}
use Rattle.grid_plan.proofs.once.each_two.Given as goal

abbrev pub invariant-loop-pair : goal.invariant-loop-pair
invariant-loop-pair l = l.set.pairs.items ≡ firsts is_pair_either_way (filter is_of_two (take l.pair-index l.pairs))
