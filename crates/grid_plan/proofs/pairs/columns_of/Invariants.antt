use Rattle.std.proofs.Common.{◌≡◌, map, take}
use Rattle.plan_model.specs.Rows.{columns_of}
use Rattle.grid_plan.proofs.pairs.columns_of.Given as goal

abbrev pub invariant-loop-rows : goal.invariant-loop-rows
invariant-loop-rows l = l.turned.items ≡ map columns_of (take l.rows-index l.grids)
