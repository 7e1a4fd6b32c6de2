use Rattle.std.{proofs.Common.{◌≡◌, ◌++◌, map}, specs.{Prelude.flat_map, List.range_with_len}}
use Rattle.plan_model.specs.declared.plan.PlanRow.{PlanRow}
use Rattle.design_nets.specs.Instances.{instances_in_row_at}
use Rattle.design_nets.proofs.instances.push_grid.Given as goal

abbrev pub invariant-loop-row : goal.invariant-loop-row
invariant-loop-row l = l.instances.items ≡ l.initial.instances.items
    ++ flat_map (instances_in_row_at l.grid (map (λ (row : PlanRow). row.cells) l.rows)) (range_with_len 0 l.row)
