-- A design is laid out as one thing at most, and then it is not refused.
use Rattle.std.proofs.Common.{◌≡◌, ℕ, ℤ, List, sym, ap, ◌∙◌, subst}
use Rattle.lam_geom.specs.declared.boxes.Axis.{Axis}
use Rattle.lam_io.specs.Io.{Bytes}
use Rattle.rule_table.specs.declared.technology.Tech.{Tech}
use Rattle.stick_text.specs.declared.design.Design.{Design as Sticks}
use Rattle.expand.specs.declared.master.Master.{Master}
use Rattle.plan_model.specs.declared.plan.Plan.{Plan}
use Rattle.pass_run.specs.declared.step.Step.{Step}
use Rattle.command_files.specs.declared.status.Status.{Status}
use Rattle.design_layouts.specs.Designs.{ArePlaced, RefusesDesign}
use Rattle.design_layouts.proofs.{OneMaster.one_passes, OneLayout.placed_not_refused}
use Rattle.jog_command.specs.Jogs.{IsLaidOutAs, widths_after}
use Rattle.design_masters.proofs.Determined.{one_masters}
use Rattle.command_files.specs.declared.status.Status.TheVariants as statuses

pub one_layout : (tech : Tech) (axes : List Axis) (design : Sticks) (n m : List ℕ) (w v : List ℤ)
    → IsLaidOutAs tech axes design n w → IsLaidOutAs tech axes design m v → (n ≡ m) × (w ≡ v)
one_layout tech axes design n m w v a b =
    let masters = one_masters tech design a.plan b.plan a.masters b.masters a.are_masters b.are_masters in
    let L : Plan → List Master → Type 0 = λ z ms. ArePlaced tech z ms axes b.steps in
    let in_masters = subst (λ ms. L b.plan ms) (sym masters.1) b.laid_out in
    let in_plan = subst (λ z. L z a.masters) (sym masters.0) in_masters in
    let steps : a.steps ≡ b.steps =
    one_passes tech a.plan a.masters axes a.steps b.steps a.laid_out.made in_plan.made in (
      a.are_numbers ∙ (ap (λ (z : Plan). z.masters) masters.0 ∙ sym b.are_numbers),
      a.are_widths
          ∙ (ap (λ (ms : List Master). widths_after tech ms a.steps) masters.1
          ∙ (ap (λ (zs : List Step). widths_after tech b.masters zs) steps ∙ sym b.are_widths)),
    )

pub not_laid_out_too : (tech : Tech) (axes : List Axis) (design : Sticks) (status : Status) (message : Bytes)
    → RefusesDesign tech axes design status message → (status ≡ statuses.OutOfMemory → ⊥)
    → (numbers : List ℕ) (widths : List ℤ) → IsLaidOutAs tech axes design numbers widths → ⊥
not_laid_out_too tech axes design status message why has numbers widths s =
    placed_not_refused tech axes design status message why has s.plan s.masters s.steps s.are_masters s.laid_out
