-- The plan of a design's grids.
use Rattle.std.specs.Prelude.{◌≡◌, None, List}
use Rattle.stick_text.specs.declared.design.GridText.{GridText}
use Rattle.checked_cells.specs.CheckedCell.{CheckedCell}
use Rattle.plan_model.specs.{declared.plan.Plan.Plan, Plan.{IsPlanOver, grids_of}}
use Rattle.grid_plan.specs.{Numbered.{masters_in, planned_rows, ports_of_chosen}, Faults.plan_fault}

-- No grid has a fault, and the plan is that of the masters that the grids name: their rows, and what the ports of the
-- masters make of these.
pub record IsPlanOf (cells : List CheckedCell) (grids : List GridText) (plan : Plan) : Type 0 where
  pub no_fault : plan_fault cells grids ≡ None
  pub masters : plan.masters ≡ masters_in cells grids
  pub rows : grids_of plan ≡ planned_rows cells grids
  pub over : IsPlanOver (ports_of_chosen cells plan.masters) plan

-- two plans of these grids are one
abbrev pub PlanIsDetermined : List CheckedCell → List GridText → Type 0
PlanIsDetermined cells grids = (a b : Plan) → IsPlanOf cells grids a → IsPlanOf cells grids b → a ≡ b
