use Rattle.std.{proofs.Common.{◌≡◌, fold, take}, specs.List.flat_map}
use Rattle.plan_model.specs.Rows.{add_new}
use Rattle.grid_plan.specs.Numbered.{is_same_number}
use Rattle.grid_plan.proofs.masters.Masters.add_rows.Given as goal

abbrev pub invariant-loop-row : goal.invariant-loop-row
invariant-loop-row l = l.self.cells.items ≡ fold (add_new is_same_number) l.initial.self.cells.items
    (flat_map (λ row. row) (take l.row-index l.rows))
