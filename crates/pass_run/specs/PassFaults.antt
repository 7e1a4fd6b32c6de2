-- Why there are no passes on these axes.
use Rattle.std.specs.Prelude.{◌≡◌, ℕ, suc, ◌<◌, ◌≤◌, ◌⊎◌, All, Contains, List, [], ◌∷◌, ◌++◌, length}
use Rattle.lam_geom.specs.declared.boxes.Axis.{Axis}
use Rattle.rule_table.specs.declared.technology.Tech.{Tech}
use Rattle.round_log.specs.Orders.{NamesEachOnce}
use Rattle.cons_graph.specs.{SimpleWalks.{edges_of, IsSimplePositiveCycle}, Solutions.value_of, Walks.HasPositiveCycle}
use Rattle.liao_wong.specs.{Answers.IsCycleOf, Sorted.IsInOrderOf}
use Rattle.sym_items.specs.declared.items.Coords.{Coords}
use Rattle.expand.specs.declared.master.Master.{Master}
use Rattle.plan_model.specs.declared.plan.Plan.{Plan}
use Rattle.pitch_join.specs.{Names.system_names, Joined.{system_variables, full_system, pruned_system}}
use Rattle.pass_run.specs.declared.passes.PassFault.{PassFault, TheVariants.{TooManyEdges, Unsatisfiable, OutOfMemory}}
use Rattle.pass_run.specs.{declared.step.Step.Step, Alike.most_edges, Layouts.{starts_of, system_values, moved_by}}
use Rattle.pass_run.specs.{Layouts.layouts_after, Passes.{ArePasses, axes_of}, Report.{report_of, cycle_text}}

-- The passes before this one are made, and its axis comes next. Passes are counted from 1.
pub record ComesTo (tech : Tech) (plan : Plan) (masters : List Master) (axes : List Axis) (pass : ℕ) (axis : Axis)
    (done : List Step) : Type 0 where
  pub made : ArePasses tech plan masters (starts_of tech masters) done
  pub later : List Axis
  pub axes_are : axes ≡ axes_of done ++ (axis ∷ later)
  pub count : pass ≡ suc (length done)

-- A pass over these layouts has values: its list is not too long, and its system has no positive cycle.
pub record IsSolvable (tech : Tech) (plan : Plan) (masters : List Master) (layouts : List Coords) (axis : Axis) : Type
    0 where
  pub few : length (pruned_system axis tech plan masters layouts) ≤ most_edges
  pub acyclic : HasPositiveCycle (full_system axis tech plan masters layouts) → ⊥

-- so it is with each of some passes
abbrev pub AreSolvable : Tech → Plan → List Master → List Coords → List Step → Type 0
AreSolvable tech plan masters before [] = Unit {0}
AreSolvable tech plan masters before (step ∷ steps) = IsSolvable tech plan masters before step.axis
    × AreSolvable tech plan masters (moved_by masters before step) steps

-- The pass has too many inequalities in its list.
pub record HasManyEdges (tech : Tech) (plan : Plan) (masters : List Master) (axes : List Axis) (pass : ℕ) : Type 0 where
  pub axis : Axis
  pub done : List Step
  pub comes : ComesTo tech plan masters axes pass axis done
  pub many : most_edges < length
      (pruned_system axis tech plan masters (layouts_after masters (starts_of tech masters) done))

-- The system of the pass over these layouts has a positive cycle, and the text is that of the cycle at which Liao and
-- Wong's rounds stop, over the variables in order of their values in the layouts. The cycle meets no variable twice,
-- its length is above 0, and each of its inequalities is one of the system's.
pub record IsCyclicOver (tech : Tech) (plan : Plan) (masters : List Master) (layouts : List Coords) (pass : ℕ)
    (axis : Axis) (text : List ℕ) : Type 0 where
  pub few : length (pruned_system axis tech plan masters layouts) ≤ most_edges
  pub cyclic : HasPositiveCycle (full_system axis tech plan masters layouts)
  pub order : List ℕ
  pub each_once : NamesEachOnce (system_variables axis masters) order
  pub in_order : IsInOrderOf (value_of (system_values axis layouts)) order
  pub cycle : List ℕ
  pub stops : IsCycleOf (pruned_system axis tech plan masters layouts) order cycle
  pub simple : IsSimplePositiveCycle (pruned_system axis tech plan masters layouts) cycle
  pub of_system : All (Contains (full_system axis tech plan masters layouts))
      (edges_of (pruned_system axis tech plan masters layouts) cycle)
  pub says : text ≡ cycle_text (system_names axis masters) (pruned_system axis tech plan masters layouts) pass axis
      cycle

-- The pass has no solution. It is the first one on its axis. The report has the texts of the passes before it, and
-- then the cycle's.
pub record IsUnsatisfiable (tech : Tech) (plan : Plan) (masters : List Master) (axes : List Axis) (pass : ℕ)
    (report : List ℕ) : Type 0 where
  pub axis : Axis
  pub done : List Step
  pub comes : ComesTo tech plan masters axes pass axis done
  pub first : Contains (axes_of done) axis → ⊥
  pub text : List ℕ
  pub cyclic : IsCyclicOver tech plan masters (layouts_after masters (starts_of tech masters) done) pass axis text
  pub says : report ≡ report_of tech plan masters (starts_of tech masters) done ++ text

abbrev pub RefusesPasses : Tech → Plan → List Master → List Axis → PassFault → Type 0
RefusesPasses tech plan masters axes (TooManyEdges pass) = HasManyEdges tech plan masters axes pass
RefusesPasses tech plan masters axes (Unsatisfiable pass report) = IsUnsatisfiable tech plan masters axes pass report
RefusesPasses tech plan masters axes OutOfMemory = Unit {0}

-- The refusals of these axes are determined, want of memory aside: there is one at most, and none where the passes on
-- all of them are made.
pub record AreRefusedInOneWay (tech : Tech) (plan : Plan) (masters : List Master) (axes : List Axis) : Type 0 where
  pub one : (e f : PassFault) → RefusesPasses tech plan masters axes e → RefusesPasses tech plan masters axes f
      → (e ≡ OutOfMemory) ⊎ (f ≡ OutOfMemory) ⊎ (e ≡ f)
  pub none_made : (steps : List Step) (e : PassFault) → ArePasses tech plan masters (starts_of tech masters) steps
      → axes_of steps ≡ axes → RefusesPasses tech plan masters axes e → e ≡ OutOfMemory

-- The first pass that has no values is this one: the passes before it are made, and over the layouts that they leave
-- its list is too long or its system has a positive cycle.
pub record IsFirstUnsolvable (tech : Tech) (plan : Plan) (masters : List Master) (axes : List Axis) (pass : ℕ) : Type
    0 where
  pub axis : Axis
  pub done : List Step
  pub comes : ComesTo tech plan masters axes pass axis done
  pub before : AreSolvable tech plan masters (starts_of tech masters) done
  pub not_solvable : IsSolvable tech plan masters (layouts_after masters (starts_of tech masters) done) axis → ⊥

abbrev pub StopsAtFirst : Tech → Plan → List Master → List Axis → PassFault → Type 0
StopsAtFirst tech plan masters axes (TooManyEdges pass) = IsFirstUnsolvable tech plan masters axes pass
StopsAtFirst tech plan masters axes (Unsatisfiable pass report) = IsFirstUnsolvable tech plan masters axes pass
StopsAtFirst tech plan masters axes OutOfMemory = Unit {0}
