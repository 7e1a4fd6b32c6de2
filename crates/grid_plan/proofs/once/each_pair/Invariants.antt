use Rattle.std.proofs.Common.{◌≡◌, take}
use Rattle.plan_model.specs.Rows.{firsts, is_pair}
use Rattle.grid_plan.proofs.once.each_pair.Given as goal

abbrev pub invariant-loop-pair : goal.invariant-loop-pair
invariant-loop-pair l = l.set.pairs.items ≡ firsts is_pair (take l.pair-index l.pairs)
