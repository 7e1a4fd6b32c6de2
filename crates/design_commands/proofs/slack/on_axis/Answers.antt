use Rattle.std.proofs.Common.{Result, Ok, Err, IfOk, ◌∙◌}
use Rattle.design_commands.proofs.AxisSlack.{IsLastWith, read_last, has_slack}
use Rattle.design_commands.proofs.slack.on_axis.Goals.{After-as_slice-most}
use Rattle.design_commands.proofs.slack.on_axis.Goals as goal

-- what the code has read is the last pass on the axis, with its greatest values
last_read : (c : After-as_slice-most)
    → IsLastWith c.args.tech.now c.args.plan.now c.args.masters.now c.args.passes.now.steps c.args.axis
    c.last_on-last.result c.as_slice-least.result.now c.as_slice-most.result.now
last_read c =
    let r = c.requires in
    read_last c.args.tech.now c.args.plan.now c.args.masters.now r.placed.0 c.args.passes.now.steps
    c.as_slice-steps.result.now c.args.passes.now.greatest_values c.as_slice-greatest_values.result.now
    c.args.axis c.last_on-last.result
    c.index-steps-last.result c.index-greatest_values-last.result c.as_slice-least.result.now
    c.as_slice-most.result.now r.planned r.placed.1 r.greatest_values r.tight c.as_slice-steps.ensures
    c.as_slice-greatest_values.ensures
    c.last_on-last.ensures.within c.last_on-last.ensures.last c.as_slice-least.ensures
    (c.as_slice-most.ensures ∙ c.index-greatest_values-last.is)

pub axis_slack-requires-clause-least_each : goal.axis_slack-requires-clause-least_each
axis_slack-requires-clause-least_each c = (last_read c).least_each

pub axis_slack-requires-clause-most_each : goal.axis_slack-requires-clause-most_each
axis_slack-requires-clause-most_each c = (last_read c).most_each

pub axis_slack-requires-clause-least_places : goal.axis_slack-requires-clause-least_places
axis_slack-requires-clause-least_places c = (last_read c).least_places

pub axis_slack-requires-clause-most_places : goal.axis_slack-requires-clause-most_places
axis_slack-requires-clause-most_places c = (last_read c).most_places

-- what follows where there is a value
on_ok : {A E : Type 0} (r : Result A E) (P Q : A → Type 0) → IfOk r P → ((x : A) → P x → Q x) → IfOk r Q
on_ok (Ok x) P Q p f = f x p
on_ok (Err e) P Q p f = tt

pub returns : goal.returns
returns c =
    let l = last_read ((goal.at.returns c).After-as_slice-most) in
    on_ok c.axis_slack.result _ _ c.axis_slack.ensures
    (λ text. has_slack c.args.tech.now c.args.plan.now c.args.masters.now c.args.passes.now.steps c.args.axis
    c.last_on-last.result c.as_slice-least.result.now c.as_slice-most.result.now text.items l)
