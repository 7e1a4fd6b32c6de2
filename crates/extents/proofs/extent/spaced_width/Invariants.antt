use Rattle.std.{proofs.Common.{◌≡◌, pos, ◌≤ℤ◌, ◌+ℤ◌, map, take}, specs.Int.int_min}
use Rattle.lam_geom.specs.declared.boxes.Axis.TheVariants.{X}
use Rattle.sym_items.specs.Layouts.{size_in}
use Rattle.plan_model.specs.{Rows.rows_of, Instances.{total, grid_width}}
use Rattle.extents.proofs.extent.spaced_width.Given as goal

abbrev pub invariant-loop-grid : goal.invariant-loop-grid
invariant-loop-grid l =
    (l.sum ≡ int_min
    (total (map (λ grid. grid_width (size_in X l.layouts) (rows_of grid) +ℤ l.widest)
    (take l.grid-index l.grids))) l.most) × (pos 0 ≤ℤ l.sum)
