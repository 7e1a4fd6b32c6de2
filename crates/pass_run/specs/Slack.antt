-- How far the variables of a pass could move while the far borders stay where the pass puts them.
use Rattle.std.specs.Prelude.{◌≡◌, ◌↔◌, ℕ, suc, ◌<◌, ◌≤◌, ◌-◌, ℤ, Contains, List, [], ◌∷◌, length, slice_index_or}
use Rattle.lam_geom.specs.declared.boxes.Axis.{Axis, TheVariants.X}
use Rattle.rule_table.specs.declared.technology.Tech.{Tech}
use Rattle.cons_graph.specs.Solutions.{value_of}
use Rattle.slack_pack.specs.Most.{IsMost, IsOnCriticalWalk}
use Rattle.sym_items.specs.declared.items.Coords.{Coords}
use Rattle.expand.specs.declared.master.Master.{Master}
use Rattle.plan_model.specs.declared.plan.Plan.{Plan}
use Rattle.pitch_join.specs.Joined.{bases_of, system_variables, full_system}
use Rattle.pass_run.specs.{declared.step.Step.Step, Layouts.moved_by, Passes.axes_of}

-- ---- one pass

-- The greatest values of the joint variables after a pass: one for each, and each the greatest that any solution of
-- the pass' system has in which the far border of every master is where the pass puts it. The system has all
-- candidates of the layouts before the pass.
pub record IsMostAfter (tech : Tech) (plan : Plan) (masters : List Master) (before : List Coords) (step : Step)
    (values : List ℤ) : Type 0 where
  pub one_each : length values ≡ system_variables step.axis masters
  pub most : IsMost (system_variables step.axis masters) (full_system step.axis tech plan masters before)
      (bases_of step.axis masters) (value_of step.x) (value_of values)

-- A variable cannot move exactly where it lies on a critical walk of the system: one from the origin through it to a
-- far border, as long as the value there.
abbrev pub IsTightWhereCritical : Tech → Plan → List Master → List Coords → Step → List ℤ → Type 0
IsTightWhereCritical tech plan masters before step values =
    (v : ℕ) → 1 ≤ v → v < system_variables step.axis masters
    → (value_of values v ≡ value_of step.x v) ↔ IsOnCriticalWalk (full_system step.axis tech plan masters before)
    (bases_of step.axis masters) (value_of step.x) v

-- the greatest values after a pass are determined
abbrev pub HasOneMost : Tech → Plan → List Master → List Coords → Type 0
HasOneMost tech plan masters before =
    (step : Step) (a b : List ℤ) → IsMostAfter tech plan masters before step a
    → IsMostAfter tech plan masters before step b → a ≡ b

-- ---- the last pass on each axis

-- The last pass on an axis among some passes over some layouts: its number, counted from 1, the layouts before it,
-- and what it gave.
pub data IsLastOn (masters : List Master) (axis : Axis) : List Coords → List Step → ℕ → List Coords → Step
    → Type 0 where
  -- it is the first of them, and none after it is on the axis
  here : (before : List Coords) (last : Step) (more : List Step) → last.axis ≡ axis
      → (Contains (axes_of more) axis → ⊥) → IsLastOn masters axis before (last ∷ more) 1 before last
  -- it is the last one after the first
  later : (before : List Coords) (first : Step) (more : List Step) (number : ℕ) (last_before : List Coords)
      (last : Step)
      → IsLastOn masters axis (moved_by masters before first) more number last_before last
      → IsLastOn masters axis before (first ∷ more) (suc number) last_before last

-- the pass with this number, from 0 on, where there is one
abbrev pub step_at : List Step → ℕ → Step
step_at steps k =
    slice_index_or steps k (record { axis = X; x = []; kept = []; edges = 0; backward = 0; rounds = 0; walks = [] })

-- what is told of the pass with this number
abbrev pub most_at : List (List ℤ) → ℕ → List ℤ
most_at greatest_values number = slice_index_or greatest_values (number - 1) []

-- One entry for each of some passes: for the last pass on an axis the greatest values after it, and nothing for the
-- others.
pub record AreGreatestValues (tech : Tech) (plan : Plan) (masters : List Master) (starts : List Coords)
    (steps : List Step) (greatest_values : List (List ℤ)) : Type 0 where
  pub one_each : length greatest_values ≡ length steps
  pub last : (axis : Axis) (number : ℕ) (before : List Coords) (step : Step)
      → IsLastOn masters axis starts steps number before step
      → IsMostAfter tech plan masters before step (most_at greatest_values number)
  pub others : (number : ℕ) → 1 ≤ number → number ≤ length steps
      → ((axis : Axis) (before : List Coords) (step : Step) → IsLastOn masters axis starts steps number before step
      → ⊥) → most_at greatest_values number ≡ []

-- after the last pass on an axis the variables that cannot move are those on critical walks
abbrev pub AreTight : Tech → Plan → List Master → List Coords → List Step → List (List ℤ) → Type 0
AreTight tech plan masters starts steps greatest_values =
    (axis : Axis) (number : ℕ) (before : List Coords) (step : Step)
    → IsLastOn masters axis starts steps number before step
    → IsTightWhereCritical tech plan masters before step (most_at greatest_values number)
