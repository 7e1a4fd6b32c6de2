use Rattle.std.{proofs.Common.{◌≡◌, take}, specs.List.flat_map}
use Rattle.plan_model.specs.Rows.{beside}
use Rattle.grid_plan.proofs.pairs.beside.Given as goal

abbrev pub invariant-loop-rows : goal.invariant-loop-rows
invariant-loop-rows l = l.pairs.items ≡ flat_map beside (take l.rows-index l.grids)
