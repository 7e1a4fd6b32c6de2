-- The layouts to which passes lead, whatever is recorded of them.
use Rattle.std.specs.Prelude.{◌≡◌, ℤ, List, [], ◌∷◌, length}
use Rattle.lam_geom.specs.declared.boxes.Axis.{Axis}
use Rattle.rule_table.specs.declared.technology.Tech.{Tech}
use Rattle.cons_graph.specs.Solutions.{IsLeastSolution, value_of}
use Rattle.sym_items.specs.declared.items.Coords.{Coords}
use Rattle.expand.specs.declared.master.Master.{Master}
use Rattle.plan_model.specs.declared.plan.Plan.{Plan}
use Rattle.pitch_join.specs.Joined.{system_variables, full_system}
use Rattle.pass_run.specs.declared.{passes.PassFault.{PassFault, TheVariants.OutOfMemory}, step.Step.Step}
use Rattle.pass_run.specs.{Laid.{AreLaidOut, AreSettled}, Layouts.{with_values, starts_of, layouts_after}}
use Rattle.pass_run.specs.{PassFaults.{IsSolvable, RefusesPasses}, Passes.{ArePasses, axes_of}}

-- A pass on an axis over some layouts has values, and these are its least: no solution of the system of all masters
-- has a lesser one anywhere.
pub record AreLeastValues (tech : Tech) (plan : Plan) (masters : List Master) (before : List Coords) (axis : Axis)
    (x : List ℤ) : Type 0 where
  pub solvable : IsSolvable tech plan masters before axis
  pub one_each : length x ≡ system_variables axis masters
  pub least : IsLeastSolution (system_variables axis masters) (full_system axis tech plan masters before) (value_of x)

-- Passes on these axes, one after another, lead from some layouts to others: each gives its axis its least values.
abbrev pub LeadTo : Tech → Plan → List Master → List Axis → List Coords → List Coords → Type 0
LeadTo tech plan masters [] before after = after ≡ before
LeadTo tech plan masters (axis ∷ axes) before after =
    (x : List ℤ) × AreLeastValues tech plan masters before axis x
    × LeadTo tech plan masters axes (with_values axis masters before x) after

-- they lead to no layouts, as one of them has no values
abbrev pub LeadNowhere : Tech → Plan → List Master → List Axis → List Coords → Type 0
LeadNowhere tech plan masters axes before = (after : List Coords) → LeadTo tech plan masters axes before after → ⊥

-- After least values another pass may be made over the layouts, which meet the plan on each axis that has had a pass.
pub record StaySettled (tech : Tech) (plan : Plan) (masters : List Master) (before : List Coords) (axis : Axis)
    (after : List Coords) : Type 0 where
  pub laid : AreLaidOut tech masters after
  pub settled : (had : List Axis) → AreSettled tech plan masters had before
      → AreSettled tech plan masters (axis ∷ had) after

-- Passes on some axes lead to one place: to the layouts after steps that are made on them; and where they lead to
-- some layouts from the start, no refusal fits these axes but want of memory.
pub record LeadToOnePlace (tech : Tech) (plan : Plan) (masters : List Master) : Type 0 where
  pub steps : (before : List Coords) (steps : List Step) → ArePasses tech plan masters before steps
      → LeadTo tech plan masters (axes_of steps) before (layouts_after masters before steps)
  pub one : (axes : List Axis) (before a b : List Coords) → LeadTo tech plan masters axes before a
      → LeadTo tech plan masters axes before b → a ≡ b
  pub not_refused : (axes : List Axis) (after : List Coords) (fault : PassFault)
      → LeadTo tech plan masters axes (starts_of tech masters) after
      → RefusesPasses tech plan masters axes fault → fault ≡ OutOfMemory
