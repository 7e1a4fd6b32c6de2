-- What is built over rows of masters.
use Rattle.std.specs.Prelude.{◌≡◌, ℕ, List, flat_map}
use Rattle.lam_geom.specs.declared.boxes.Axis.TheVariants.{X, Y}
use Rattle.plan_model.specs.{declared.plan.Plan.Plan, Plan.{grids_of, pitch_of, borders_of}, Rows.{firsts, is_pair}}
use Rattle.grid_plan.specs.{declared.scan.Scan.Scan, Tables.meeting_of}

-- a plan of these masters and rows, whose ports are those on the sides of the scan
pub record IsBuilt (scan : Scan) (cells : List ℕ) (rows : List (List (List ℕ))) (plan : Plan) : Type 0 where
  pub masters : plan.masters ≡ cells
  pub grids : grids_of plan ≡ rows
  pub pitch_x : plan.pitch_x ≡ pitch_of X rows
  pub pitch_y : plan.pitch_y ≡ pitch_of Y rows
  pub port_x : plan.port_x ≡ flat_map (meeting_of scan.above.before.items scan.above.after.items cells)
      (firsts is_pair (borders_of X rows))
  pub port_y : plan.port_y ≡ flat_map (meeting_of scan.beside.before.items scan.beside.after.items cells)
      (firsts is_pair (borders_of Y rows))
