-- The plan of a design and its masters are one, and so is why it has none.
use Rattle.std.proofs.Common.{◌≡◌, List, inl, inr, refl, sym, ap, ◌∙◌, subst}
use Rattle.lam_io.specs.Io.{Bytes}
use Rattle.rule_table.specs.declared.technology.Tech.{Tech}
use Rattle.stick_text.specs.declared.design.Design.{Design}
use Rattle.checked_cells.specs.CheckedCell.{CheckedCell}
use Rattle.expand.specs.declared.master.Master.{Master}
use Rattle.plan_model.specs.declared.plan.Plan.{Plan}
use Rattle.grid_plan.specs.Faults.{plan_fault}
use Rattle.design_masters.specs.Plans.{AreMastersOf, HasNoMasters}
use Rattle.design_masters.proofs.Determined.{has_masters, one_fault, one_masters, one_plan}
use Rattle.design_masters.specs.declared.fault.MastersFault.TheVariants as fault
use Rattle.command_files.specs.{declared.status.{What.TheVariants.{Items, Boxes}, Status.Status}, StepLists.Steps}
use Rattle.command_files.{specs.StepLists.StepsStop, proofs.Once.{ComeOnce, IsFault, MakesOnce, once_by}}
use Rattle.design_layouts.specs.Plans.{HasPlan, NoPlan, NoMasters, masters_refusal, with_masters}
use Rattle.command_files.specs.declared.status.Status.TheVariants as statuses

-- ---- why there is none, as a fault

abbrev IsWithout : Tech → Design → Status → Bytes → Type 0
IsWithout tech design = IsFault (HasNoMasters tech design) fault.OutOfMemory (masters_refusal design)

without_plan : (tech : Tech) (design : Design) (status : Status) (message : Bytes) → NoPlan tech design status message
    → IsWithout tech design status message
without_plan tech design (statuses.BadSticks f) message why = (fault.Stick f, why.0, λ e. cc, refl, why.1)
without_plan tech design (statuses.BadGrid grid f) message why = (fault.Grid grid f, why.0, λ e. cc, refl, why.1)
without_plan tech design other message why = absurd why

without_masters : (tech : Tech) (design : Design) (status : Status) (message : Bytes)
    → NoMasters tech design status message → IsWithout tech design status message
without_masters tech design (statuses.TooLarge Items) message why = (fault.TooManyItems, why, λ e. cc, refl, refl)
without_masters tech design (statuses.TooLarge Boxes) message why = (fault.TooManyBoxes, why, λ e. cc, refl, refl)
without_masters tech design other message why = absurd why

-- a plan leaves no fault of names, sizes or grids
planned_too : (tech : Tech) (design : Design) (status : Status) (message : Bytes) (plan : Plan)
    → HasPlan tech design plan → NoPlan tech design status message → ⊥
planned_too tech design (statuses.BadSticks f) message plan has why = let e = sym why.0 ∙ has.1.resolved in cc
planned_too tech design (statuses.BadGrid grid f) message plan has why =
    let first = why.0.first in
    let resolved = sym why.0.resolved ∙ has.1.resolved in
    let same : why.0.cells ≡ has.0 = cc in
    let none = ap (λ (ks : List CheckedCell). plan_fault ks design.grids) same ∙ has.1.planned.no_fault in
    let e = sym first ∙ none in
    cc
planned_too tech design other message plan has why = why

-- nor do masters
made_too : (tech : Tech) (design : Design) (plan : Plan) (status : Status) (message : Bytes) (masters : List Master)
    → AreMastersOf tech design plan masters → NoMasters tech design status message → ⊥
made_too tech design plan status message masters are why = let w =
    without_masters tech design status message why in has_masters tech design plan masters w.0 are w.1 w.2

-- where there are masters a refusal is after them
pub after_masters : (tech : Tech) (design : Design) (rest : Plan → List Master → Steps) (status : Status)
    (message : Bytes) (plan : Plan) (masters : List Master) → AreMastersOf tech design plan masters
    → StepsStop (with_masters tech design rest) status message → StepsStop (rest plan masters) status message
after_masters tech design rest status message plan masters are (inl cause) =
    absurd (planned_too tech design status message plan (are.cells, are.planned) cause.1)
after_masters tech design rest status message plan masters are (inr (other, has, inl cause)) =
    absurd (made_too tech design plan status message masters are cause.1)
after_masters tech design rest status message plan masters are (inr (other, has, inr (others, also, more))) =
    let same = one_masters tech design plan other masters others are also in
    let in_masters = subst (λ ms. StepsStop (rest other ms) status message) (sym same.1) more in
    subst (λ p. StepsStop (rest p masters) status message) (sym same.0) in_masters

-- ---- the steps

pub masters_come : (tech : Tech) (design : Design) (rest : Plan → List Master → Steps)
    → ((plan : Plan) (masters : List Master) → AreMastersOf tech design plan masters → ComeOnce (rest plan masters))
    → ComeOnce (with_masters tech design rest)
masters_come tech design rest then = (plan_once, λ plan has. (masters_once plan, λ masters are. then plan masters are))
  where
    plan_once : MakesOnce (HasPlan tech design) (NoPlan tech design)
    plan_once =
        once_by (HasNoMasters tech design) fault.OutOfMemory (masters_refusal design) (one_fault tech design)
        (without_plan tech design)
        (λ p q h k. one_plan tech design h.0 k.0 p q h.1 k.1) (planned_too tech design)

    masters_once : (plan : Plan) → MakesOnce (AreMastersOf tech design plan) (NoMasters tech design)
    masters_once plan =
        once_by (HasNoMasters tech design) fault.OutOfMemory (masters_refusal design) (one_fault tech design)
        (without_masters tech design)
        (λ ms ns h k. (one_masters tech design plan plan ms ns h k).1) (made_too tech design plan)
