-- Masters without their limits.
use Rattle.std.specs.Prelude.{◌≡◌, List, [], map}
use Rattle.lam_geom.specs.declared.boxes.Axis.{Axis}
use Rattle.cell_model.specs.declared.cell.Cell.{Cell}
use Rattle.expand.specs.declared.master.Master.{Master}
use Rattle.plan_model.specs.{declared.plan.Plan.Plan, Plan.{pitch_in, matches_in}}

abbrev pub bare_cell : Cell → Cell
bare_cell cell = record cell { limits = [] }

abbrev pub bare : Master → Master
bare master = record master { cell = bare_cell master.cell }

abbrev pub bare_of : List Master → List Master
bare_of masters = map bare masters

-- two plans ask the same on an axis: equal borders, and lines
pub record AskAlike (axis : Axis) (a b : Plan) : Type 0 where
  pub pitches : pitch_in axis a ≡ pitch_in axis b
  pub lines : matches_in axis a ≡ matches_in axis b
