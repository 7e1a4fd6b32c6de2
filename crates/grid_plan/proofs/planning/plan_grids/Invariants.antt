use Rattle.std.proofs.Common.{◌≡◌, map}
use Rattle.plan_model.specs.Rows.{rows_of}
use Rattle.grid_plan.proofs.planning.plan_grids.Given as goal

abbrev pub invariant-loop-rows : goal.invariant-loop-rows
invariant-loop-rows l = map rows_of l.placed.items ≡ l.yielded
