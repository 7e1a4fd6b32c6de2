use Rattle.std.{proofs.Common.{◌≡◌, map}, specs.List.range_with_len}
use Rattle.plan_model.specs.Rows.{column_at}
use Rattle.grid_plan.proofs.pairs.columns.Given as goal

abbrev pub invariant-loop-c : goal.invariant-loop-c
invariant-loop-c l = l.columns.items ≡ map (column_at l.rows) (range_with_len 0 l.c)
