use Rattle.std.proofs.Common.{◌≤ℤ◌, map, take}
use Rattle.lam_geom.specs.declared.boxes.Axis.TheVariants.{Y}
use Rattle.sym_items.specs.Layouts.{size_in}
use Rattle.plan_model.specs.{Rows.rows_of, Instances.whole_height}
use Rattle.extents.proofs.extent.is_too_high.Given as goal

abbrev pub invariant-loop-grid : goal.invariant-loop-grid
invariant-loop-grid l = whole_height (size_in Y l.layouts) (map rows_of (take l.grid-index l.grids)) ≤ℤ l.most
