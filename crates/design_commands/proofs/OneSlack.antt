-- What `slack` writes is determined.
use Rattle.std.proofs.Common.{◌≡◌, ℕ, List, ◌++◌, sym, ap, ◌∙◌, subst}
use Rattle.lam_geom.specs.declared.boxes.Axis.{Axis, TheVariants.{X, Y}}
use Rattle.lam_io.specs.Io.{Bytes}
use Rattle.rule_table.specs.declared.technology.Tech.{Tech}
use Rattle.stick_text.specs.declared.design.Design.{Design as Sticks}
use Rattle.sym_items.specs.declared.items.Coords.{Coords}
use Rattle.expand.specs.declared.master.Master.{Master}
use Rattle.plan_model.specs.declared.plan.Plan.{Plan}
use Rattle.pass_run.specs.{declared.step.Step.Step, Layouts.starts_of, Slack.IsMostAfter}
use Rattle.pass_run.proofs.{Determined.one_most, Lasts.last_once}
use Rattle.slack_text.specs.Slack.{axis_slack}
use Rattle.design_commands.specs.Slacks.{HasSlack, SlacksTo}
use Rattle.design_layouts.{specs.Designs.ArePlaced, proofs.OneMaster.one_passes}
use Rattle.design_masters.proofs.Determined.{one_masters}

one_axis : (tech : Tech) (plan : Plan) (masters : List Master) (steps : List Step) (axis : Axis) (s t : Bytes)
    → HasSlack tech plan masters steps axis s → HasSlack tech plan masters steps axis t → s ≡ t
one_axis tech plan masters steps axis s t a b =
    let last = last_once masters axis (starts_of tech masters) steps a.number b.number a.before b.before a.step b.step
    a.last b.last in
    let M : List Coords → Step → Type 0 = λ layouts step. IsMostAfter tech plan masters layouts step b.most in
    let in_step = subst (λ step. M b.before step) (sym last.2) b.is_most in
    let other = subst (λ layouts. M layouts a.step) (sym last.1) in_step in
    let most : a.most ≡ b.most = one_most tech plan masters a.before a.step a.most b.most a.is_most other in
    a.written ∙ (ap (λ (k : ℕ). axis_slack axis k masters a.step.x a.most) last.0
    ∙ (ap (λ (step : Step). axis_slack axis b.number masters step.x a.most) last.2
    ∙ (ap (λ most. axis_slack axis b.number masters b.step.x most) most ∙ sym b.written)))

pub one_text : (tech : Tech) (axes : List Axis) (sticks : Sticks) (o p : Bytes) → SlacksTo tech axes sticks o
    → SlacksTo tech axes sticks p → o ≡ p
one_text tech axes sticks o p a b =
    let masters = one_masters tech sticks a.plan b.plan a.masters b.masters a.are_masters b.are_masters in
    let L : Plan → List Master → Type 0 = λ z ms. ArePlaced tech z ms axes b.steps
    × HasSlack tech z ms b.steps X b.slack.on_x × HasSlack tech z ms b.steps Y b.slack.on_y in
    let in_masters = subst (λ ms. L b.plan ms) (sym masters.1) (b.laid_out, b.slack.x, b.slack.y) in
    let in_plan = subst (λ z. L z a.masters) (sym masters.0) in_masters in
    let steps : a.steps ≡ b.steps =
    one_passes tech a.plan a.masters axes a.steps b.steps a.laid_out.made in_plan.0.made in
    let S : List Step → Type 0 = λ zs. HasSlack tech a.plan a.masters zs X b.slack.on_x
    × HasSlack tech a.plan a.masters zs Y b.slack.on_y in
    let message = subst S (sym steps) (in_plan.1, in_plan.2) in
    let x : a.slack.on_x ≡ b.slack.on_x =
    one_axis tech a.plan a.masters a.steps X a.slack.on_x b.slack.on_x a.slack.x message.0 in
    let y : a.slack.on_y ≡ b.slack.on_y =
    one_axis tech a.plan a.masters a.steps Y a.slack.on_y b.slack.on_y a.slack.y message.1 in
    a.slack.written
    ∙ (ap (λ (t : Bytes). t ++ a.slack.on_y) x ∙ (ap (λ (t : Bytes). b.slack.on_x ++ t) y ∙ sym b.slack.written))
