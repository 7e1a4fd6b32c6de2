-- What the code keeps of borders.
use Rattle.std.specs.Prelude.{◌≡◌, List, map}
use Rattle.lam_geom.specs.declared.boxes.Axis.{Axis}
use Rattle.cell_model.specs.declared.cell.CellPort.{CellPort}
use Rattle.plan_model.specs.Borders.{side_ports, side_before, side_after}
use Rattle.grid_plan.specs.declared.borders.Borders.{Borders}

-- the ports on both sides of the borders
pub record IsBorderOf (axis : Axis) (ports : List (List CellPort)) (borders : Borders) : Type 0 where
  pub before : borders.before.items ≡ map (side_ports (side_before axis)) ports
  pub after : borders.after.items ≡ map (side_ports (side_after axis)) ports

pub record KeepsSides (old new : Borders) : Type 0 where
  pub before : new.before.items ≡ old.before.items
  pub after : new.after.items ≡ old.after.items
