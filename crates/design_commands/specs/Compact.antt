-- What `compact` writes.
use Rattle.std.specs.Prelude.{◌≡◌, List}
use Rattle.lam_geom.specs.declared.boxes.Axis.{Axis}
use Rattle.lam_io.specs.Io.{Bytes}
use Rattle.rule_table.specs.declared.technology.Tech.{Tech}
use Rattle.stick_text.specs.declared.design.Design.{Design}
use Rattle.expand.specs.declared.master.Master.{Master}
use Rattle.plan_model.specs.declared.plan.Plan.{Plan}
use Rattle.pass_run.specs.declared.step.Step.{Step}
use Rattle.cif_text.specs.Cutting.{AreCut}
use Rattle.design_masters.specs.Plans.{AreMastersOf}
use Rattle.design_layouts.specs.Designs.{ArePlaced, masks_parts, masks_text, passes_text}

-- The masks and the report of a design: those of its masters, laid out.
pub record CompactsTo (tech : Tech) (axes : List Axis) (design : Design) (output report : Bytes) : Type 0 where
  pub plan : Plan
  pub masters : List Master
  pub are_masters : AreMastersOf tech design plan masters
  pub steps : List Step
  pub laid_out : ArePlaced tech plan masters axes steps
  pub written : output ≡ masks_text tech plan masters steps
  pub reported : report ≡ passes_text tech plan masters steps

-- The masks of a design are in these chunks: each of their parts is cut into chunks of whole lines.
pub record AreMasksIn (tech : Tech) (axes : List Axis) (design : Design) (chunks : List Bytes) : Type 0 where
  pub plan : Plan
  pub masters : List Master
  pub are_masters : AreMastersOf tech design plan masters
  pub steps : List Step
  pub laid_out : ArePlaced tech plan masters axes steps
  pub cut : AreCut (masks_parts tech plan masters steps) chunks
