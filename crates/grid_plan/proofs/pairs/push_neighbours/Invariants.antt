use Rattle.std.proofs.Common.{◌≡◌, ◌≤◌, ◌++◌, take}
use Rattle.plan_model.specs.Rows.{neighbours}
use Rattle.grid_plan.proofs.pairs.push_neighbours.Given as goal

abbrev pub invariant-loop-k : goal.invariant-loop-k
invariant-loop-k l = (1 ≤ l.k) × (l.pairs.items ≡ l.initial.pairs.items ++ neighbours (take l.k l.row))
