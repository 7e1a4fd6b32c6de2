use Rattle.std.{proofs.Common.{◌≡◌, ◌≤◌, ◌++◌, take}, specs.List.flat_map}
use Rattle.plan_model.specs.Rows.{neighbours, zipped_rows}
use Rattle.grid_plan.proofs.pairs.push_above.Given as goal

abbrev pub invariant-loop-r : goal.invariant-loop-r
invariant-loop-r l = (1 ≤ l.r)
    × (l.pairs.items ≡ l.initial.pairs.items ++ flat_map zipped_rows (neighbours (take l.r l.rows)))
