use Rattle.std.proofs.{Common.{List, subst}, lemmas.Result.err_from_is_err_and}
use Rattle.expand.specs.declared.master.Master.{Master}
use Rattle.design_layouts.{specs.Designs.clean_starts, proofs.Stopping.{no_masters, after_masters}}
use Rattle.command_files.specs.{Refusal.message_text, Refusals.Refused, StepLists.{ends, Stops}}
use Rattle.edit_command.proofs.edit.started.Goals as goal

pub returns-in_err-made-clause-refused : goal.returns-in_err-made-clause-refused
returns-in_err-made-clause-refused g c =
    let p = err_from_is_err_and c.from_residual.result c.from_residual.ensures.1 in
    rw p.1 (rw p.2
    (no_masters c.args.tech.now c.args.design.now (λ plan masters. clean_starts c.args.tech.now masters ends) _ _
    c.in_err-made.ensures.refused))

pub returns-in_err-starts-clause-refused : goal.returns-in_err-starts-clause-refused
returns-in_err-starts-clause-refused g c =
    let p = err_from_is_err_and c.from_residual-in_err-starts.result c.from_residual-in_err-starts.ensures.1 in
    let made = c.in_ok-made.made in
    let r = c.in_err-starts.field-0.0 in
    let R : List Master → Type 0 = λ ms. Refused (Stops (clean_starts c.args.tech.now ms ends)) r in
    let why : R made.masters.items = subst R c.deref.ensures.value c.in_err-starts.ensures.refused in
    rw p.1 (rw p.2
    (after_masters c.args.tech.now c.args.design.now (λ plan masters. clean_starts c.args.tech.now masters ends)
    r.status (message_text r.line) made.plan made.masters.items c.in_ok-made.ensures.of_design why))
