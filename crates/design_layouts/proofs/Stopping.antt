-- Where the steps over a design stop.
use Rattle.std.proofs.Common.{List, inl, inr}
use Rattle.lam_geom.specs.declared.boxes.Axis.{Axis}
use Rattle.lam_io.specs.Io.{Bytes, Files}
use Rattle.rule_table.specs.declared.technology.Tech.{Tech}
use Rattle.stick_text.specs.declared.design.Design.{Design as Sticks}
use Rattle.expand.specs.declared.master.Master.{Master}
use Rattle.plan_model.specs.declared.plan.Plan.{Plan}
use Rattle.pass_run.specs.declared.step.Step.{Step}
use Rattle.design_masters.specs.Plans.{AreMastersOf}
use Rattle.command_files.specs.{declared.status.Status.Status, StepLists.{Steps, StepsWrite, Stops, ends}}
use Rattle.design_layouts.specs.{Plans.{with_masters, RefusesPlan}, Designs.{ArePlaced, RefusesDesign, RefusesMasters}}
use Rattle.design_layouts.specs.Designs.{clean_starts, with_passes, with_layout}

-- without masters nothing follows
pub no_masters : (tech : Tech) (design : Sticks) (rest : Plan → List Master → Steps) (status : Status)
    (message : Bytes) → RefusesPlan tech design status message → Stops (with_masters tech design rest) status message
no_masters tech design rest status message (inl none) = inl none
no_masters tech design rest status message (inr (inl cause)) = inr (inl cause)
no_masters tech design rest status message (inr (inr (plan, has, inl cause))) = inr (inr (plan, has, inl cause))
no_masters tech design rest status message (inr (inr (plan, has, inr (masters, are, none)))) = absurd none

pub no_starts : (tech : Tech) (masters : List Master) (rest : Steps) (status : Status) (message : Bytes)
    → Stops (clean_starts tech masters ends) status message → Stops (clean_starts tech masters rest) status message
no_starts tech masters rest status message (inl none) = inl none
no_starts tech masters rest status message (inr (inl cause)) = inr (inl cause)
no_starts tech masters rest status message (inr (inr (u, clean, none))) = absurd none

-- what is refused after the masters
pub after_masters : (tech : Tech) (design : Sticks) (rest : Plan → List Master → Steps) (status : Status)
    (message : Bytes) (plan : Plan) (masters : List Master) → AreMastersOf tech design plan masters
    → Stops (rest plan masters) status message → Stops (with_masters tech design rest) status message
after_masters tech design rest status message plan masters are (inl none) = inl none
after_masters tech design rest status message plan masters are (inr why) =
    inr (inr (plan, (are.cells, are.planned), inr (masters, are, why)))

-- either leaves a design without masks
abbrev laid : Tech → List Axis → Plan → List Master → Steps
laid tech axes plan masters = clean_starts tech masters (with_passes tech axes plan masters (λ steps. ends))

pub no_design : (tech : Tech) (axes : List Axis) (design : Sticks) (status : Status) (message : Bytes)
    → RefusesPlan tech design status message → RefusesDesign tech axes design status message
no_design tech axes design = no_masters tech design (laid tech axes)

pub no_masks : (tech : Tech) (axes : List Axis) (design : Sticks) (status : Status) (message : Bytes) (plan : Plan)
    (masters : List Master) → AreMastersOf tech design plan masters
    → RefusesMasters tech plan masters axes status message → RefusesDesign tech axes design status message
no_masks tech axes design = after_masters tech design (laid tech axes)

-- a design that is laid out has come so far
pub layout_writes : (tech : Tech) (axes : List Axis) (design : Sticks) (rest : Plan → List Master → List Step → Steps)
    (files : Files) (output report : Bytes) (plan : Plan) (masters : List Master)
    (steps : List Step) → AreMastersOf tech design plan masters → ArePlaced tech plan masters axes steps
    → StepsWrite (rest plan masters steps) files output report
    → StepsWrite (with_layout tech axes design rest) files output report
layout_writes tech axes design rest files output report plan masters steps are placed wrote =
    (plan, (are.cells, are.planned), (masters, are, (tt, placed.made.clean, (steps, placed.made, (tt, placed, wrote)))))
