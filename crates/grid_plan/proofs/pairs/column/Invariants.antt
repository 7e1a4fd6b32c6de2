use Rattle.std.proofs.Common.{◌≡◌, take}
use Rattle.plan_model.specs.Rows.{column_at}
use Rattle.grid_plan.proofs.pairs.column.Given as goal

abbrev pub invariant-loop-row : goal.invariant-loop-row
invariant-loop-row l = l.column.items ≡ column_at (take l.row-index l.rows) l.c
