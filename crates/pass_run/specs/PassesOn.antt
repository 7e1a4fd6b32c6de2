-- What passes on some axes give in the end.
use Rattle.std.specs.Prelude.{◌≡◌, [], Contains, List, length}
use Rattle.lam_geom.specs.declared.boxes.Axis.{Axis}
use Rattle.rule_table.specs.declared.technology.Tech.{Tech}
use Rattle.expand.specs.declared.master.Master.{Master}
use Rattle.plan_model.specs.declared.plan.Plan.{Plan}
use Rattle.pitch_join.specs.Layouts.{LayoutsMeet}
use Rattle.pass_run.specs.{declared.passes.Passes.Passes, Layouts.{starts_of, layouts_after}, Passes.ArePasses}
use Rattle.pass_run.specs.{Passes.axes_of, Report.report_of, Theorems.{AreSound, AreWellPlaced}, Laid.AreLaidOut}
use Rattle.pass_run.specs.PassFaults.{AreSolvable}

-- The passes are made on these axes, one after another, over the start layouts of the masters, and these are the
-- layouts that they leave and what they report. With that comes what holds of each of them and of the last layouts.
pub record ArePassesOn (tech : Tech) (plan : Plan) (masters : List Master) (axes : List Axis) (p : Passes) : Type
    0 where
  pub on_axes : axes_of p.steps ≡ axes
  pub passes : ArePasses tech plan masters (starts_of tech masters) p.steps
  pub last : p.coords ≡ layouts_after masters (starts_of tech masters) p.steps
  pub report : p.report ≡ report_of tech plan masters (starts_of tech masters) p.steps
  pub sound_passes : AreSound tech plan masters [] (starts_of tech masters) p.steps
  pub counted : length p.coords ≡ length masters
  pub laid : AreLaidOut tech masters p.coords
  pub placed : AreWellPlaced tech masters p.coords axes
  pub met : (axis : Axis) → Contains axes axis → LayoutsMeet axis tech plan masters p.coords
  -- each pass has values: they are made exactly where this holds
  pub solvable : AreSolvable tech plan masters (starts_of tech masters) p.steps
