-- The passes of a plan, one after another: each gives one axis of all masters the least layouts over the layouts
-- before it, and keeps the other axis.
use Rattle.std.specs.Prelude.{◌≡◌, ℕ, ◌≤◌, List, [], ◌∷◌, length, map}
use Rattle.lam_geom.specs.declared.boxes.Axis.{Axis}
use Rattle.rule_table.specs.declared.technology.Tech.{Tech}
use Rattle.round_log.specs.{declared.log.Entry.Entry, Looks.backward_numbers, Orders.NamesEachOnce, Rounds.schedule_of}
use Rattle.round_log.specs.{Rounds.EndsInRound, WalksBack.walk_of}
use Rattle.cons_graph.specs.Solutions.{IsLeastSolution, value_of}
use Rattle.liao_wong.specs.Sorted.{IsInOrderOf}
use Rattle.sym_items.specs.declared.items.Coords.{Coords}
use Rattle.expand.specs.declared.master.Master.{Master}
use Rattle.plan_model.specs.declared.plan.Plan.{Plan}
use Rattle.pitch_join.specs.Masters.{master_numbers}
use Rattle.pitch_join.specs.Joined.{system_variables, far_of, kept_at, full_system, pruned_system}
use Rattle.pass_run.specs.{declared.step.{Step.Step, Walk.Walk}, Alike.most_edges, Layouts.{system_values, moved_by}}

-- A pass over the layouts before it: every value of its axis is the least that any solution of the system of all
-- masters has.
pub record IsLeastPass (tech : Tech) (plan : Plan) (masters : List Master) (before : List Coords) (step : Step) : Type
    0 where
  pub one_each : length step.x ≡ system_variables step.axis masters
  pub least : IsLeastSolution (system_variables step.axis masters) (full_system step.axis tech plan masters before)
      (value_of step.x)

-- the number of kept pairs of master m, and of each
abbrev pub kept_count : Axis → Tech → List Master → List Coords → ℕ → ℕ
kept_count axis tech masters layouts m = length (kept_at axis tech masters layouts m)

abbrev pub kept_counts : Axis → Tech → List Master → List Coords → List ℕ
kept_counts axis tech masters layouts = map (kept_count axis tech masters layouts) (master_numbers masters)

-- the walk that some raises have to the far border of master m, and that of each
abbrev pub far_walk : Axis → List Master → List Entry → ℕ → Walk
far_walk axis masters raises m = record { edges = walk_of raises (far_of axis masters m) }

abbrev pub far_walks : Axis → List Master → List Entry → List Walk
far_walks axis masters raises = map (far_walk axis masters raises) (master_numbers masters)

-- What is recorded of a pass: for each master its kept pairs, the number of listed inequalities, and of Liao and
-- Wong's rounds over these, in order of the values before the pass, the backward inequalities, the number of rounds,
-- and for each master the walk to its far border.
pub record IsRecorded (tech : Tech) (plan : Plan) (masters : List Master) (before : List Coords) (step : Step) : Type
    0 where
  pub kept : step.kept ≡ kept_counts step.axis tech masters before
  pub edges : step.edges ≡ length (pruned_system step.axis tech plan masters before)
  pub few : step.edges ≤ most_edges
  pub order : List ℕ
  pub each_once : NamesEachOnce (system_variables step.axis masters) order
  pub in_order : IsInOrderOf (value_of (system_values step.axis before)) order
  pub backward : step.backward ≡ length (backward_numbers (pruned_system step.axis tech plan masters before) order)
  pub raises : List Entry
  pub ended : EndsInRound (schedule_of (pruned_system step.axis tech plan masters before) order) step.rounds raises
  pub walks : step.walks ≡ far_walks step.axis masters raises

-- each of some passes is made over the layouts that the ones before it leave
abbrev pub ArePasses : Tech → Plan → List Master → List Coords → List Step → Type 0
ArePasses tech plan masters before [] = Unit {0}
ArePasses tech plan masters before (step ∷ steps) =
    IsLeastPass tech plan masters before step × IsRecorded tech plan masters before step
    × ArePasses tech plan masters (moved_by masters before step) steps

-- the axes of some passes
abbrev pub axes_of : List Step → List Axis
axes_of [] = []
axes_of (step ∷ steps) = step.axis ∷ axes_of steps

-- passes over some layouts are determined by their axes
abbrev pub AreDetermined : Tech → Plan → List Master → List Coords → Type 0
AreDetermined tech plan masters before =
    (a b : List Step) → ArePasses tech plan masters before a → ArePasses tech plan masters before b
    → axes_of a ≡ axes_of b → a ≡ b
