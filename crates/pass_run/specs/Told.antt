-- What is told of passes, before more of them come. Plumbing: `Slack` has what is told of all of them.
use Rattle.std.specs.Prelude.{◌≡◌, ℤ, Contains, List, [], ◌∷◌, ◌++◌}
use Rattle.lam_geom.specs.declared.boxes.Axis.{Axis}
use Rattle.rule_table.specs.declared.technology.Tech.{Tech}
use Rattle.sym_items.specs.declared.items.Coords.{Coords}
use Rattle.expand.specs.declared.master.Master.{Master}
use Rattle.plan_model.specs.declared.plan.Plan.{Plan}
use Rattle.pass_run.specs.{declared.step.Step.Step, Layouts.moved_by, Passes.axes_of, Slack.IsMostAfter}
use Rattle.pass_run.specs.Slack.{IsTightWhereCritical}

-- the greatest values after a pass, of which those on critical walks are the values that it found
pub record IsTightMost (tech : Tech) (plan : Plan) (masters : List Master) (before : List Coords) (step : Step)
    (values : List ℤ) : Type 0 where
  pub most : IsMostAfter tech plan masters before step values
  pub tight : IsTightWhereCritical tech plan masters before step values

-- What is told of a pass, where passes on these axes come after it: its greatest values where none of them is on its
-- own axis, and else nothing.
pub record IsPassTold (tech : Tech) (plan : Plan) (masters : List Master) (before : List Coords) (step : Step)
    (coming : List Axis) (values : List ℤ) : Type 0 where
  pub last : (Contains coming step.axis → ⊥) → IsTightMost tech plan masters before step values
  pub others : Contains coming step.axis → values ≡ []

-- so it is with each of some passes, where passes on these axes come after them all
abbrev pub AreTold : Tech → Plan → List Master → List Axis → List Coords → List Step → List (List ℤ) → Type 0
AreTold tech plan masters coming before [] [] = Unit {0}
AreTold tech plan masters coming before [] (values ∷ greatest_values) = ⊥
AreTold tech plan masters coming before (step ∷ steps) [] = ⊥
AreTold tech plan masters coming before (step ∷ steps) (values ∷ greatest_values) =
    IsPassTold tech plan masters before step (axes_of steps ++ coming) values
    × AreTold tech plan masters coming (moved_by masters before step) steps greatest_values
