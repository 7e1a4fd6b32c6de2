use Rattle.std.proofs.Common.{◌≡◌, map}
use Rattle.plan_model.specs.declared.plan.PlanRow.{PlanRow}
use Rattle.grid_plan.proofs.planning.plan_grid.Given as goal

abbrev pub invariant-loop-cells : goal.invariant-loop-cells
invariant-loop-cells l = map (λ (row : PlanRow). row.cells) l.placed.items ≡ l.yielded
