use Rattle.std.{proofs.Common.{◌≡◌, [], fold, take}, specs.List.flat_map}
use Rattle.plan_model.specs.Rows.{add_new}
use Rattle.grid_plan.specs.Numbered.{is_same_number}
use Rattle.grid_plan.proofs.masters.Masters.of.Given as goal

abbrev pub invariant-loop-rows : goal.invariant-loop-rows
invariant-loop-rows l = l.masters.cells.items ≡ fold (add_new is_same_number) []
    (flat_map (flat_map (λ row. row)) (take l.rows-index l.grids))
