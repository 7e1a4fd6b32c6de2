use Rattle.std.{proofs.Common.{◌≡◌, ◌++◌, take}, specs.List.flat_map}
use Rattle.plan_model.specs.Rows.{neighbours}
use Rattle.grid_plan.proofs.pairs.push_beside.Given as goal

abbrev pub invariant-loop-row : goal.invariant-loop-row
invariant-loop-row l = l.pairs.items ≡ l.initial.pairs.items ++ flat_map neighbours (take l.row-index l.rows)
