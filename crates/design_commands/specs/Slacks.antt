-- What `slack` writes: how far each part of each master could move at the found sizes, on x and then on y.
use Rattle.std.specs.Prelude.{◌≡◌, ℕ, ℤ, List, ◌++◌}
use Rattle.lam_geom.specs.declared.boxes.Axis.{Axis, TheVariants.{X, Y}}
use Rattle.lam_io.specs.Io.{Bytes}
use Rattle.rule_table.specs.declared.technology.Tech.{Tech}
use Rattle.sym_items.specs.declared.items.Coords.{Coords}
use Rattle.stick_text.specs.declared.design.Design.{Design}
use Rattle.expand.specs.declared.master.Master.{Master}
use Rattle.plan_model.specs.declared.plan.Plan.{Plan}
use Rattle.pass_run.specs.{declared.step.Step.Step, Layouts.starts_of, Slack.{IsLastOn, IsMostAfter}}
use Rattle.pass_run.specs.Slack.{IsTightWhereCritical}
use Rattle.slack_text.specs.Slack.{axis_slack}
use Rattle.design_masters.specs.Plans.{AreMastersOf}
use Rattle.design_layouts.specs.Designs.{ArePlaced}

-- How far the parts of masters could move on an axis, as the last pass on it leaves them: between their least places,
-- and the greatest that any solution of that pass's system has in which each far border is where it was found. A
-- theorem says that just those cannot move that lie on a critical walk.
pub record HasSlack (tech : Tech) (plan : Plan) (masters : List Master) (steps : List Step) (axis : Axis)
    (text : Bytes) : Type 0 where
  pub number : ℕ
  pub before : List Coords
  pub step : Step
  pub last : IsLastOn masters axis (starts_of tech masters) steps number before step
  pub most : List ℤ
  pub is_most : IsMostAfter tech plan masters before step most
  pub tight : IsTightWhereCritical tech plan masters before step most
  pub written : text ≡ axis_slack axis number masters step.x most

-- the texts of both axes, that of y after that of x
pub record HaveSlack (tech : Tech) (plan : Plan) (masters : List Master) (steps : List Step) (output : Bytes) : Type
    0 where
  pub on_x : Bytes
  pub on_y : Bytes
  pub x : HasSlack tech plan masters steps X on_x
  pub y : HasSlack tech plan masters steps Y on_y
  pub written : output ≡ on_x ++ on_y

-- The output of `slack` over a design: its masters are laid out as `compact` does.
pub record SlacksTo (tech : Tech) (axes : List Axis) (design : Design) (output : Bytes) : Type 0 where
  pub plan : Plan
  pub masters : List Master
  pub are_masters : AreMastersOf tech design plan masters
  pub steps : List Step
  pub laid_out : ArePlaced tech plan masters axes steps
  pub slack : HaveSlack tech plan masters steps output
