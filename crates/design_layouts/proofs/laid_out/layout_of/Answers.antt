use Rattle.std.{proofs.{Common.{List, subst}, lemmas.Result.err_from_is_err_and}, specs.Prelude.IsTrue}
use Rattle.expand.specs.declared.master.Master.{Master}
use Rattle.pass_run.specs.{Layouts.starts_of, Slack.AreTight}
use Rattle.design_layouts.{specs.Designs.RefusesMasters, proofs.Stopping.{no_design, no_masks}}
use Rattle.command_files.specs.{Refusal.message_text, Refusals.Refused}
use Rattle.design_layouts.proofs.laid_out.layout_of.Goals as goal

pub returns-in_err-made-clause-refused : goal.returns-in_err-made-clause-refused
returns-in_err-made-clause-refused g c =
    let p = err_from_is_err_and c.from_residual.result c.from_residual.ensures.1 in
    rw p.1 (rw p.2 (no_design c.args.tech.now c.args.axes.now c.args.design.now _ _ c.in_err-made.ensures.refused))

pub returns-in_err-passes-clause-refused : goal.returns-in_err-passes-clause-refused
returns-in_err-passes-clause-refused g c =
    let p = err_from_is_err_and c.from_residual-in_err-passes.result c.from_residual-in_err-passes.ensures.1 in
    let made = c.in_ok-made.made in
    let r = c.in_err-passes.field-0.0 in
    let R : List Master → Type 0 = λ ms. Refused (RefusesMasters c.args.tech.now made.plan ms c.args.axes.now) r in
    let why : R made.masters.items = subst R c.deref.ensures.value c.in_err-passes.ensures.refused in
    rw p.1 (rw p.2 (no_masks c.args.tech.now c.args.axes.now c.args.design.now r.status (message_text r.line) made.plan
    made.masters.items c.in_ok-made.ensures.of_design why))

pub lay_out-requires-clause-few_boxes : goal.lay_out-requires-clause-few_boxes
lay_out-requires-clause-few_boxes g c κs within = rw c.deref.ensures.value c.in_ok-made.ensures.few_boxes

pub returns-clause-tight : goal.returns-clause-tight
returns-clause-tight g c =
    let tech = c.args.tech.now in
    let passes = c.in_ok-passes.passes in
    let T : List Master → Type 0 = λ ms. IsTrue c.args.with_most
    → AreTight tech c.in_ok-made.made.plan ms (starts_of tech ms) passes.steps passes.greatest_values in
    subst T c.deref.ensures.value c.in_ok-passes.ensures.tight
