-- The names of masters, how many mask boxes they and their instances have, and that each stands somewhere.
use Rattle.std.specs.Prelude.{◌≡◌, ◌≢◌, ℕ, ◌<◌, ◌≤◌, All, List, length, sum_by}
use Rattle.cell_model.specs.Counts.{boxes_in}
use Rattle.expand.specs.declared.master.Master.{Master}
use Rattle.plan_model.specs.{declared.plan.Plan.Plan, Plan.grids_of, Instances.{InstancePlace, IsInstancePlace}}
use Rattle.plan_model.specs.Instances.{master_at_spot}
use Rattle.pitch_join.specs.Masters.{master_at}

-- how many mask boxes a master has, by its nodes and wires, and the master with this number
abbrev pub boxes_of_master : Master → ℕ
boxes_of_master master = boxes_in master.cell

abbrev pub boxes_at : List Master → ℕ → ℕ
boxes_at masters m = boxes_of_master (master_at masters m)

-- all instances together: grid by grid, row by row, and of each row those of its masters
abbrev pub boxes_of_instances : Plan → List Master → ℕ
boxes_of_instances plan masters = sum_by (sum_by (sum_by (boxes_at masters))) (grids_of plan)

-- how many instances there are, grid by grid and row by row
abbrev pub instances_in : Plan → ℕ
instances_in plan = sum_by (sum_by length) (grids_of plan)

-- the name of a master fits into a line
abbrev pub HasShortName : Master → Type 0
HasShortName master = length master.cell.name ≤ 65000

-- the name of a master has no semicolon
abbrev pub HasPlainName : Master → Type 0
HasPlainName master = All (λ b. b ≢ 59) master.cell.name

-- The names of masters are short. All masters together, each once, have 65,536 mask boxes at most, and there are
-- 1,048,576 instances at most.
pub record HasFewParts (plan : Plan) (masters : List Master) : Type 0 where
  pub named : All HasShortName masters
  pub boxes : sum_by boxes_of_master masters ≤ 65536
  pub instances : instances_in plan ≤ 1048576

-- master m stands at some spot of the grids
abbrev pub Stands : List (List (List ℕ)) → ℕ → Type 0
Stands grids m = (p : InstancePlace) × IsInstancePlace grids p × (master_at_spot grids p ≡ m)

-- each master stands somewhere in the grids
abbrev pub AllStand : Plan → List Master → Type 0
AllStand plan masters = (m : ℕ) → m < length masters → Stands (grids_of plan) m
