use Rattle.std.{proofs.Common.{◌≡◌, pos, ◌≤ℤ◌, map, take}, specs.Int.int_min}
use Rattle.lam_geom.specs.declared.boxes.Axis.TheVariants.{Y}
use Rattle.sym_items.specs.Layouts.{size_in}
use Rattle.plan_model.specs.Instances.{total, row_height}
use Rattle.extents.proofs.extent.grid_height.Given as goal

abbrev pub invariant-loop-row : goal.invariant-loop-row
invariant-loop-row l =
    (l.sum ≡ int_min (total (map (λ row. row_height (size_in Y l.layouts) row.cells) (take l.row-index l.grid.rows)))
    l.most) × (pos 0 ≤ℤ l.sum)
