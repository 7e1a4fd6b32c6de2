-- The scan of the borders.
use Rattle.std.specs.Prelude.{◌≡◌, List, Option}
use Rattle.lam_geom.specs.declared.boxes.Axis.TheVariants.{X, Y}
use Rattle.cell_model.specs.declared.cell.CellPort.{CellPort}
use Rattle.stick_text.specs.declared.fault.GridFault.{GridFault}
use Rattle.grid_plan.specs.{declared.scan.Scan.Scan, BorderSides.IsBorderOf}

pub record IsScanOf (ports : List (List CellPort)) (scan : Scan) : Type 0 where
  pub above : IsBorderOf X ports scan.above
  pub beside : IsBorderOf Y ports scan.beside

-- what is found is the misfit, and the ports stay
pub record FindsMisfit (ports : List (List CellPort)) (misfit found : Option GridFault) (scan : Scan) : Type 0 where
  pub value : found ≡ misfit
  pub kept : IsScanOf ports scan
