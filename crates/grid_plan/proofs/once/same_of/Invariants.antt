use Rattle.std.proofs.Common.{◌≡◌, map, take}
use Rattle.plan_model.specs.Plan.{same_of}
use Rattle.grid_plan.proofs.once.same_of.Given as goal

abbrev pub invariant-loop-pair : goal.invariant-loop-pair
invariant-loop-pair l = l.same.items ≡ map same_of (take l.pair-index l.pairs)
