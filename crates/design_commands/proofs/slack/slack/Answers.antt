use Rattle.std.proofs.Common.{◌≡◌, ◌≤◌, List, length, inl, refl, ap, subst, sym, arith}
use Rattle.std.proofs.lemmas.Result.{IfOk-weaker, IfErr-weaker}
use Rattle.lam_geom.specs.declared.boxes.Axis.{Axis}
use Rattle.pass_run.{specs.{declared.step.Step.Step, Passes.axes_of}, proofs.Chain.axes_counted}
use Rattle.design_layouts.specs.Designs.{HasBothAxes}
use Rattle.command_files.specs.Limits.{most_passes}
use Rattle.design_commands.proofs.slack.slack.Goals as goal

-- there are as many passes as axes
few_steps : (steps : List Step) (axes : List Axis) → axes_of steps ≡ axes → length axes ≤ most_passes
    → length steps ≤ most_passes
few_steps steps axes on few =
    let counted = axes_counted steps in
    let same = ap (λ (zs : List Axis). length zs) on in
    omega (arith, counted, same, few)

pub on_both-requires-clause-few : goal.on_both-requires-clause-few
on_both-requires-clause-few g c =
    few_steps c.in_ok-laid.laid.passes.steps c.args.axes.now c.in_ok-laid.ensures.placed.made.on_axes c.requires.few

pub on_both-requires-clause-both : goal.on_both-requires-clause-both
on_both-requires-clause-both g c = subst HasBothAxes (sym c.in_ok-laid.ensures.placed.made.on_axes) c.requires.both

pub on_both-requires-clause-greatest_values : goal.on_both-requires-clause-greatest_values
on_both-requires-clause-greatest_values g c = c.in_ok-laid.ensures.greatest_values refl

pub on_both-requires-clause-tight : goal.on_both-requires-clause-tight
on_both-requires-clause-tight g c = c.in_ok-laid.ensures.tight refl

pub returns-clause-done : goal.returns-clause-done
returns-clause-done g c =
    let q = c.in_ok-laid.ensures in
    IfOk-weaker c.on_both.result _ _ (λ text slack. record {
      plan = c.in_ok-laid.laid.plan;
      masters = c.in_ok-laid.laid.masters.items;
      are_masters = q.masters;
      steps = c.in_ok-laid.laid.passes.steps;
      laid_out = q.placed;
      slack = slack;
    }) c.on_both.ensures.done

pub returns-clause-refused : goal.returns-clause-refused
returns-clause-refused g c = IfErr-weaker c.on_both.result _ _ (λ r memory. inl memory) c.on_both.ensures.refused
