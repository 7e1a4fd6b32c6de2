-- The masters of a design: its cells, the plan of its grids, and the masters with their items.
use Rattle.std.specs.Prelude.{◌≡◌, ℕ, ◌≤◌, ◌<◌, All, List, Some, Ok, Err, length, map, slice_index, sum_by}
use Rattle.rule_table.specs.declared.technology.Tech.{Tech}
use Rattle.stick_text.specs.declared.{design.Design.Design, fault.GridFault.GridFault}
use Rattle.checked_cells.specs.{Counts.{weight_of, boxes_of}, CheckedCell.{CheckedCell, cell_of, known_at}}
use Rattle.checked_cells.specs.Grids.{resolved_cells}
use Rattle.expand.specs.{declared.master.Master.Master, Items.AreItems}
use Rattle.plan_model.specs.{declared.plan.Plan.Plan, Plan.{grids_of, AreOfMasters}}
use Rattle.grid_plan.specs.{Faults.plan_fault, Planned.IsPlanOf}
use Rattle.design_masters.specs.declared.fault.MastersFault.{MastersFault, TheVariants.{Stick, Grid, TooManyItems}}
use Rattle.design_masters.specs.declared.fault.MastersFault.TheVariants.{TooManyBoxes, OutOfMemory}
use Rattle.design_masters.specs.Limits.{most_items, most_boxes}

-- The design's names and sizes have no fault, and its grids have a plan.
pub record IsPlanned (tech : Tech) (design : Design) (cells : List CheckedCell) (plan : Plan) : Type 0 where
  pub resolved : resolved_cells tech design ≡ Ok cells
  pub planned : IsPlanOf cells design.grids plan

-- the weights of all masters together
abbrev pub weights_of : List CheckedCell → Plan → ℕ
weights_of cells plan = sum_by (λ k. weight_of (known_at cells k)) plan.masters

-- the mask boxes of each master, and of all instances
abbrev pub boxes_of_masters : List CheckedCell → List ℕ → List ℕ
boxes_of_masters cells masters = map (λ k. boxes_of (known_at cells k)) masters

abbrev pub boxes_of_all : List CheckedCell → Plan → ℕ
boxes_of_all cells plan = sum_by (sum_by (sum_by (slice_index (boxes_of_masters cells plan.masters)))) (grids_of plan)

-- It has few items and few mask boxes.
pub record IsLightPlan (cells : List CheckedCell) (plan : Plan) : Type 0 where
  pub items : weights_of cells plan ≤ most_items
  pub boxes : boxes_of_all cells plan ≤ most_boxes

-- its masters are among the cells, and its rows are of masters
pub record AreChosen (cells : List CheckedCell) (plan : Plan) : Type 0 where
  pub masters : All (λ k. k < length cells) plan.masters
  pub rows : All (AreOfMasters (length plan.masters)) (grids_of plan)

-- It has too many items, or else too many mask boxes.
abbrev pub RefusesSize : List CheckedCell → Plan → MastersFault → Type 0
RefusesSize cells plan OutOfMemory = Unit {0}
RefusesSize cells plan TooManyItems = most_items < weights_of cells plan
RefusesSize cells plan TooManyBoxes = (weights_of cells plan ≤ most_items) × (most_boxes < boxes_of_all cells plan)
RefusesSize cells plan other = ⊥

-- the masters of a plan: its cells with each use replaced by what it stands for, and their items, those of their nets
pub record HaveCells (tech : Tech) (cells : List CheckedCell) (plan : Plan) (masters : List Master) : Type 0 where
  pub are : map (λ (m : Master). m.cell) masters ≡ map (λ k. cell_of (known_at cells k)) plan.masters
  pub items : All (λ (m : Master). AreItems tech m.cell m.items) masters

-- The masters of a design.
pub record AreMastersOf (tech : Tech) (design : Design) (plan : Plan) (masters : List Master) : Type 0 where
  pub cells : List CheckedCell
  pub planned : IsPlanned tech design cells plan
  pub light : IsLightPlan cells plan
  pub made : HaveCells tech cells plan masters

-- Its grids have no plan: this is the first that has a fault, and its first fault.
pub record HasGridFault (tech : Tech) (design : Design) (grid : ℕ) (fault : GridFault) : Type 0 where
  pub cells : List CheckedCell
  pub resolved : resolved_cells tech design ≡ Ok cells
  pub first : plan_fault cells design.grids ≡ Some (grid, fault)

-- Its grids have a plan, and this has too many items, or else too many mask boxes.
pub record IsTooLarge (tech : Tech) (design : Design) (fault : MastersFault) : Type 0 where
  pub cells : List CheckedCell
  pub plan : Plan
  pub planned : IsPlanned tech design cells plan
  pub why : RefusesSize cells plan fault

-- Why a design has no masters.
abbrev pub HasNoMasters : Tech → Design → MastersFault → Type 0
HasNoMasters tech design OutOfMemory = Unit {0}
HasNoMasters tech design (Stick fault) = resolved_cells tech design ≡ Err fault
HasNoMasters tech design (Grid grid fault) = HasGridFault tech design grid fault
HasNoMasters tech design TooManyItems = IsTooLarge tech design TooManyItems
HasNoMasters tech design TooManyBoxes = IsTooLarge tech design TooManyBoxes
