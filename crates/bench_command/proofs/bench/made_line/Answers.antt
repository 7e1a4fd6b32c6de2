use Rattle.std.proofs.Common.{List, sym, subst, ◌^◌, ◌≤◌}
use Rattle.std.proofs.lemmas.Result.{err_from_is_err_and, IfOk-weaker, IfErr-weaker}
use Rattle.design_sizes.specs.Sizes.{names_in}
use Rattle.stick_text.specs.declared.design.Design.{Design}
use Rattle.expand.specs.declared.master.Master.{Master}
use Rattle.design_masters.specs.Plans.{AreMastersOf}
use Rattle.command_files.specs.{declared.refusal.Refusal.Refusal, Refusals.Refused}
use Rattle.bench_command.specs.Bench.{x_then_y}
use Rattle.design_layouts.specs.Designs.{RefusesMasters}
use Rattle.bench_command.proofs.MadeDesigns.{benched, few_names, masters_refused, one_master, plan_refused}
use Rattle.bench_command.proofs.bench.made_line.Goals as goal

pub masters_of-requires-clause-few_names : goal.masters_of-requires-clause-few_names
masters_of-requires-clause-few_names g c =
    λ κs le. let F : Design → Type 0 = λ d. names_in d ≤ 2 ^ 19 in subst F (sym c.requires.is_made) (few_names c.args.n)

pub returns-in_err-made-clause-refused : goal.returns-in_err-made-clause-refused
returns-in_err-made-clause-refused g c =
    let p = err_from_is_err_and c.from_residual.result c.from_residual.ensures.1 in
    rw p.1 (rw p.2
    (plan_refused c.args.tech.now c.args.n c.args.design.now c.in_err-made.field-0.0 c.requires.is_made
    c.requires.shipped c.requires.checked c.in_err-made.ensures.refused))

pub made_designs_stay_small-requires-clause-alone : goal.made_designs_stay_small-requires-clause-alone
made_designs_stay_small-requires-clause-alone g c =
    let M : Design → Type 0 = λ d. AreMastersOf c.args.tech.now d c.in_ok-made.made.plan
    c.in_ok-made.made.masters.items in
    rw c.as_slice-masters.ensures.value
    (one_master c.args.tech.now c.args.n c.in_ok-made.made.plan c.in_ok-made.made.masters.items
    (subst M c.requires.is_made c.in_ok-made.ensures.of_design))

pub laid_line-requires-clause-few_boxes : goal.laid_line-requires-clause-few_boxes
laid_line-requires-clause-few_boxes g c = λ κs le. rw c.as_slice-masters.ensures.value c.in_ok-made.ensures.few_boxes

pub returns-clause-line : goal.returns-clause-line
returns-clause-line g c =
    let made = c.in_ok-made.made in
    IfOk-weaker c.laid_line.result _ _
    (λ line on. benched c.args.tech.now c.args.n c.args.design.now made.plan made.masters.items
    c.as_slice-masters.result.now line.items c.requires.is_made c.requires.shipped c.in_ok-made.ensures.of_design
    c.as_slice-masters.ensures.value on) c.laid_line.ensures.line

pub returns-clause-refused : goal.returns-clause-refused
returns-clause-refused g c =
    let made = c.in_ok-made.made in
    let is = c.as_slice-masters.ensures.value in
    let R : Refusal → List Master → Type 0 = λ r ms. Refused (RefusesMasters c.args.tech.now made.plan ms x_then_y) r in
    IfErr-weaker c.laid_line.result _ _
    (λ r why. masters_refused c.args.tech.now c.args.n c.args.design.now made.plan made.masters.items r
    c.requires.is_made c.requires.shipped c.requires.checked c.in_ok-made.ensures.of_design
    c.in_ok-made.ensures.planned
    (record {
      short = rw is at c.made_designs_stay_small.ensures.short;
      few = rw is at c.made_designs_stay_small.ensures.few_variables;
    }) (subst (R
    r) is why)) c.laid_line.ensures.refused
