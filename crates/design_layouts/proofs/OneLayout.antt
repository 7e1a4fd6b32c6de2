-- A design is refused in one way at most, and then it is not laid out.
use Rattle.std.proofs.Common.{◌≡◌, List, [], refl, sym, ◌∙◌, subst}
use Rattle.lam_geom.specs.declared.boxes.Axis.{Axis}
use Rattle.lam_io.specs.Io.{Bytes}
use Rattle.rule_table.specs.declared.technology.Tech.{Tech}
use Rattle.stick_text.specs.declared.design.Design.{Design as Sticks}
use Rattle.expand.specs.declared.master.Master.{Master}
use Rattle.plan_model.specs.declared.plan.Plan.{Plan}
use Rattle.pass_run.specs.declared.step.Step.{Step}
use Rattle.command_files.specs.{declared.status.Status.Status, StepLists.{Steps, ends}, Fetches.IsDecided}
use Rattle.command_files.proofs.{Once.{AreOne, ComeOnce, not_both, refused_once}, Stopping.judgement_decided}
use Rattle.command_files.proofs.Stopping.{no_files, stops_judged, stops_refuse}
use Rattle.design_layouts.specs.Designs.{ArePlaced, RefusesDesign, with_layout}
use Rattle.design_layouts.proofs.{OneMaster.layout_come, Stopping.layout_writes}
use Rattle.design_masters.specs.Plans.{AreMastersOf}
use Rattle.command_files.specs.declared.status.Status.TheVariants as statuses

-- the steps that lay a design out
abbrev Laying : Tech → List Axis → Sticks → Steps
Laying tech axes design = with_layout tech axes design (λ plan masters steps. ends)

laying_once : (tech : Tech) (axes : List Axis) (design : Sticks) → ComeOnce (Laying tech axes design)
laying_once tech axes design =
    layout_come tech axes design (λ plan masters steps. ends)
    (λ plan masters steps are placed o p r s a b. (a.0 ∙ sym b.0, a.1 ∙ sym b.1))

pub refused_decided : (tech : Tech) (axes : List Axis) (design : Sticks) (status : Status) (message : Bytes)
    → RefusesDesign tech axes design status message → (status ≡ statuses.OutOfMemory → ⊥) → IsDecided status
refused_decided tech axes design status message why has =
    judgement_decided status (stops_judged (Laying tech axes design) status message why) has

-- a design that is refused, and not for want of memory, is not laid out
pub placed_not_refused : (tech : Tech) (axes : List Axis) (design : Sticks) (status : Status) (message : Bytes)
    → RefusesDesign tech axes design status message → (status ≡ statuses.OutOfMemory → ⊥)
    → (plan : Plan) (masters : List Master) (steps : List Step) → AreMastersOf tech design plan masters
    → ArePlaced tech plan masters axes steps → ⊥
placed_not_refused tech axes design status message why has plan masters steps are placed =
    not_both (Laying tech axes design) (laying_once tech axes design) no_files [] [] status message
    (layout_writes tech axes design (λ plan masters steps. ends) no_files [] [] plan masters steps are placed
    (refl, refl))
    (stops_refuse (Laying tech axes design) no_files status message why)
    (refused_decided tech axes design status message why has)

pub has_memory : (status : Status) → IsDecided status → status ≡ statuses.OutOfMemory → ⊥
has_memory status d e = subst IsDecided e d

pub design_refused_once : (tech : Tech) (axes : List Axis) (design : Sticks) (e f : Status) (message told : Bytes)
    → RefusesDesign tech axes design e message → RefusesDesign tech axes design f told
    → IsDecided e → IsDecided f → AreOne e f message told
design_refused_once tech axes design e f message told a b d g =
    refused_once (Laying tech axes design) (laying_once tech axes design) no_files e f message told
    (stops_refuse (Laying tech axes design) no_files e message a)
    (stops_refuse (Laying tech axes design) no_files f told b) d g
