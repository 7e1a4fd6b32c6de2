use Rattle.std.proofs.Common.{◌≡◌, fold, take}
use Rattle.plan_model.specs.Rows.{add_new}
use Rattle.grid_plan.specs.Numbered.{is_same_number}
use Rattle.grid_plan.proofs.masters.Masters.add_row.Given as goal

abbrev pub invariant-loop-cell : goal.invariant-loop-cell
invariant-loop-cell l = l.self.cells.items ≡ fold (add_new is_same_number) l.initial.self.cells.items
    (take l.cell-index l.row)
