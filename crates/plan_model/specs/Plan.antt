-- What a plan says of its rows and of the ports of its masters.
use Rattle.std.specs.Prelude.{◌≡◌, ℕ, ◌==◌, ◌<◌, ◌≤◌, not, Bool, All, List, length, map, filter, flat_map}
use Rattle.lam_geom.specs.declared.boxes.Axis.{Axis, TheVariants.{X, Y}}
use Rattle.cell_model.specs.declared.cell.CellPort.{CellPort}
use Rattle.plan_model.specs.{declared.plan.{Match.Match, Plan.Plan, Same.Same}, Borders.{FitsAt, matches_at}}
use Rattle.plan_model.specs.Rows.{rows_of, beside, above, above_by_columns, firsts, is_pair, is_pair_either_way}
use Rattle.plan_model.specs.Rows.{IsRectangular}

-- the rows of each grid
abbrev pub grids_of : Plan → List (List (List ℕ))
grids_of plan = map rows_of plan.grids

-- ---- masters that share a column or a row

abbrev pub is_of_two : ℕ × ℕ → Bool
is_of_two pair = not (pair.0 == pair.1)

abbrev pub same_of : ℕ × ℕ → Same
same_of pair = record { a = pair.0; b = pair.1 }

-- masters next to one another whose far borders are equal: on x those that share a column, on y those that share a row
abbrev pub sharing : Axis → List (List ℕ) → List (ℕ × ℕ)
sharing X rows = above_by_columns rows
sharing Y rows = beside rows

-- each two masters once, over all grids
abbrev pub pitch_of : Axis → List (List (List ℕ)) → List Same
pitch_of axis grids = map same_of (firsts is_pair_either_way (filter is_of_two (flat_map (sharing axis) grids)))

-- ---- masters that meet at a border

-- the pairs at whose borders ports share values of the axis: on x one above the other, on y one beside the other
abbrev pub meeting : Axis → List (List ℕ) → List (ℕ × ℕ)
meeting X rows = above rows
meeting Y rows = beside rows

abbrev pub borders_of : Axis → List (List (List ℕ)) → List (ℕ × ℕ)
borders_of axis grids = flat_map (meeting axis) grids

-- each ordered pair of masters once, over all grids, and its ports in order
abbrev pub ports_matched : Axis → List (List CellPort) → List (List (List ℕ)) → List Match
ports_matched axis ports grids = flat_map (matches_at axis ports) (firsts is_pair (borders_of axis grids))

-- ---- the plan

abbrev pub pitch_in : Axis → Plan → List Same
pitch_in X plan = plan.pitch_x
pitch_in Y plan = plan.pitch_y

abbrev pub matches_in : Axis → Plan → List Match
matches_in X plan = plan.port_x
matches_in Y plan = plan.port_y

-- the rows are of masters
abbrev pub AreOfMasters : ℕ → List (List ℕ) → Type 0
AreOfMasters count rows = All (All (λ m. m < count)) rows

-- A plan over masters with these ports: each grid is rectangular, at each border the ports fit, the far borders that
-- are equal are those of masters that share a column or a row, and the ports that are matched those that meet.
pub record IsPlanOver (ports : List (List CellPort)) (plan : Plan) : Type 0 where
  pub masters : length plan.masters ≡ length ports
  pub few_masters : length ports ≤ 256
  pub some_grids : 0 < length plan.grids
  pub rectangular : All IsRectangular (grids_of plan)
  pub of_masters : All (AreOfMasters (length ports)) (grids_of plan)
  pub fits : (axis : Axis) → All (FitsAt axis ports) (borders_of axis (grids_of plan))
  pub pitch : (axis : Axis) → pitch_in axis plan ≡ pitch_of axis (grids_of plan)
  pub matched : (axis : Axis) → matches_in axis plan ≡ ports_matched axis ports (grids_of plan)
