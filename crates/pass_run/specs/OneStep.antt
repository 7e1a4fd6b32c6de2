-- The list of a pass, and what a solved pass leaves.
use Rattle.std.specs.Prelude.{◌≡◌, ℕ, ◌<◌, ◌≤◌, ℤ, All, Contains, Some, List, ◌∷◌, length, map}
use Rattle.lam_geom.specs.declared.boxes.Axis.{Axis}
use Rattle.rule_table.specs.declared.technology.Tech.{Tech}
use Rattle.cons_graph.specs.{declared.edges.Edge.Edge, Constraints.IsConstraintGraph, SimpleWalks.{heads_of, length_of}}
use Rattle.cons_graph.specs.{SimpleWalks.{HasNoRepeat, IsSimplePositiveCycle, WalksFromTo}, Solutions.IsLeastSolution}
use Rattle.cons_graph.specs.{Solutions.value_of, Walks.HasPositiveCycle}
use Rattle.round_log.specs.{declared.log.Log.Log, Logs.{raises_in, IsLogOfRounds}, Looks.{backward_numbers, label}}
use Rattle.round_log.specs.{Orders.NamesEachOnce, WalksBack.walk_of}
use Rattle.liao_wong.specs.{declared.solving.Solved.Solved, Answers.{IsCycleOf, IsWithinLimit}, Sorted.IsInOrderOf}
use Rattle.sym_items.specs.declared.items.Coords.{Coords}
use Rattle.expand.specs.declared.master.Master.{Master}
use Rattle.plan_model.specs.declared.plan.Plan.{Plan}
use Rattle.pitch_join.specs.{Names.system_names, Joined.{bases_of, system_variables, pruned_system}}
use Rattle.slack_pack.specs.Most.{HasWalk, IsMost, IsAttained}
use Rattle.shadow_prune.specs.declared.keeping.KeptFault.{KeptFault}
use Rattle.shadow_prune.specs.declared.keeping.KeptFault.TheVariants as faults
use Rattle.pass_run.specs.declared.{edges.Listed.Listed, pass.Stop.{Stop, TheVariants.{TooManyEdges, OutOfMemory}}}
use Rattle.pass_run.specs.{declared.step.{Step.Step, Walk.Walk}, Alike.most_edges, Layouts.system_values}
use Rattle.pass_run.specs.Passes.{kept_counts}

-- the list of the pass on an axis over some layouts, of which a constraint graph is made
pub record IsListOver (axis : Axis) (tech : Tech) (plan : Plan) (masters : List Master) (before : List Coords)
    (listed : Listed) : Type 0 where
  pub vars : listed.graph.vars ≡ system_variables axis masters
  pub edges : listed.graph.edges ≡ pruned_system axis tech plan masters before
  pub few : length listed.graph.edges ≤ most_edges
  pub shape : IsConstraintGraph listed.graph
  pub kept : listed.kept.items ≡ kept_counts axis tech masters before
  pub bases : listed.base ≡ bases_of axis masters
  pub names : listed.names ≡ system_names axis masters
  pub named : length listed.names ≡ listed.graph.vars

-- The variables in order of their values in some layouts.
pub record IsOrderAlong (axis : Axis) (layouts : List Coords) (order : List ℕ) : Type 0 where
  pub names : NamesEachOnce (length (system_values axis layouts)) order
  pub in_order : IsInOrderOf (value_of (system_values axis layouts)) order

-- Liao and Wong's rounds over the list of a pass, in order of the values before it, have ended with a solution.
pub record IsSolvedPass (axis : Axis) (tech : Tech) (plan : Plan) (masters : List Master) (before : List Coords)
    (listed : Listed) (solved : Solved) : Type 0 where
  pub is_list : IsListOver axis tech plan masters before listed
  pub order : List ℕ
  pub along : IsOrderAlong axis before order
  pub least : IsLeastSolution listed.graph.vars listed.graph.edges (value_of solved.x)
  pub one_each : length solved.x ≡ listed.graph.vars
  pub small : All IsWithinLimit solved.x
  pub backward : solved.backward ≡ length (backward_numbers listed.graph.edges order)
  pub of_rounds : IsLogOfRounds listed.graph order solved.rounds solved.log
  pub labels : (v : ℕ) → v < listed.graph.vars → label (raises_in solved.log) v ≡ Some (value_of solved.x v)

-- They have stopped at a cycle.
pub record IsStoppedPass (axis : Axis) (tech : Tech) (plan : Plan) (masters : List Master) (before : List Coords)
    (listed : Listed) (cycle : List ℕ) : Type 0 where
  pub is_list : IsListOver axis tech plan masters before listed
  pub order : List ℕ
  pub along : IsOrderAlong axis before order
  pub cyclic : HasPositiveCycle listed.graph.edges
  pub simple : IsSimplePositiveCycle listed.graph.edges cycle
  pub stops : IsCycleOf listed.graph.edges order cycle

-- the walk of a log to a far border, and those to some
abbrev pub walk_to : Log → ℕ → Walk
walk_to log far = record { edges = walk_of (raises_in log) far }

abbrev pub walks_to : Log → List ℕ → List Walk
walks_to log fars = map (walk_to log) fars

-- the step of a solved pass; the far borders are the first variables of the masters
abbrev pub step_of : Axis → Listed → Solved → Step
step_of axis listed solved = record {
  axis = axis;
  x = solved.x;
  kept = listed.kept.items;
  edges = length listed.graph.edges;
  backward = solved.backward;
  rounds = solved.rounds;
  walks = walks_to solved.log listed.base;
}

-- the walk leads from the origin to a far border, and is as long as the label there
pub record HasPath (edges : List Edge) (log : Log) (far : ℕ) : Type 0 where
  pub passes : WalksFromTo edges 0 (walk_to log far).edges far
  pub simple : HasNoRepeat (0 ∷ heads_of edges (walk_to log far).edges)
  pub as_long : label (raises_in log) far ≡ Some (length_of edges (walk_to log far).edges)

-- from each variable but the origin a walk leads to a far border
abbrev pub ReachFar : ℕ → List Edge → List ℕ → Type 0
ReachFar vars edges fars = (v : ℕ) → 1 ≤ v → v < vars → (f : ℕ) × Contains fars f
    × ((long : ℤ) × HasWalk edges v f long)

-- the greatest values over the list of a pass, with walks that show them
pub record IsListedMost (vars : ℕ) (edges : List Edge) (fars : List ℕ) (x values : List ℤ) : Type 0 where
  pub one_each : length values ≡ vars
  pub most : IsMost vars edges fars (value_of x) (value_of values)
  pub attained : (v : ℕ) → 1 ≤ v → v < vars → IsAttained edges fars (value_of x) v (value_of values v)

-- why a pass stops that has no list
abbrev pub stop_of : KeptFault → Stop
stop_of faults.TooMany = TooManyEdges
stop_of faults.OutOfMemory = OutOfMemory
