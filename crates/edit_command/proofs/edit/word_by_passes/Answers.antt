use Rattle.std.proofs.{Common.{List, ap, ◌∙◌}, lemmas.Result.IfOk-weaker}
use Rattle.sym_items.specs.declared.items.Coords.{Coords}
use Rattle.command_files.specs.Refusal.{message_text}
use Rattle.edit_command.{specs.Edits.{done_word, laid_out, without}, proofs.LeastLayouts.placed_least}
use Rattle.edit_command.proofs.edit.word_by_passes.Goals as goal

pub returns-in-Ok : goal.returns-in-Ok
returns-in-Ok g c =
    let q = c.in-Ok.ensures in
    let masters = c.args.masters.now in
    IfOk-weaker c.done_word.result _ _
    (λ word e.
    laid_out _
    (placed_least c.args.tech.now c.args.plan.now masters c.args.axes.now c.in-Ok.passes.steps q.laid_out)
    (e ∙ ap (λ (cs : List Coords). done_word masters cs) (c.as_slice.ensures ∙ q.last))) c.done_word.ensures

pub returns-in-Err : goal.returns-in-Err
returns-in-Err g c =
    let refusal = c.in-Err.refusal in
    IfOk-weaker c.refused_word.result _ _
    (λ word told. without refusal.status (message_text refusal.line) c.in-Err.ensures.refused told.0 told.1)
    c.refused_word.ensures
