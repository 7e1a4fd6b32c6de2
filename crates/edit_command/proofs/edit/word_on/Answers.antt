use Rattle.std.proofs.{Common.{List, subst}, lemmas.Result.IfOk-weaker}
use Rattle.lam_io.specs.Io.{Bytes}
use Rattle.expand.specs.declared.master.Master.{Master}
use Rattle.command_files.specs.Refusal.{message_text}
use Rattle.design_layouts.proofs.Stopping.{no_design}
use Rattle.edit_command.{specs.Edits.{AreAnswered, no_masks}, proofs.Editing.answered_by}
use Rattle.edit_command.proofs.edit.word_on.Goals as goal

pub returns-in-Ok-clause-answered : goal.returns-in-Ok-clause-answered
returns-in-Ok-clause-answered g c =
    let made = c.in-Ok.made in
    let short = c.in_ok-has_short_text.ensures.0 c.if-not-branch.false in
    let A : Bytes → List Master → Type 0 = λ w ms. AreAnswered c.args.tech.now made.plan ms c.args.axes.now w in
    IfOk-weaker c.word_over.result _ _
    (λ word told. answered_by c.args.tech.now c.args.axes.now c.args.design.now made.plan made.masters.items
    word.items short c.in-Ok.ensures.of_design
    (subst (A word.items) c.deref.ensures.value told)) c.word_over.ensures.answered

pub returns-in-Err-clause-answered : goal.returns-in-Err-clause-answered
returns-in-Err-clause-answered g c =
    let refusal = c.in-Err.refusal in
    let short = c.in_ok-has_short_text.ensures.0 c.if-not-branch.false in
    IfOk-weaker c.refused_word.result _ _
    (λ word told. no_masks short refusal.status (message_text refusal.line)
    (no_design c.args.tech.now c.args.axes.now c.args.design.now _ _ c.in-Err.ensures.refused) told.0
    told.1) c.refused_word.ensures

pub word_over-requires-clause-few_boxes : goal.word_over-requires-clause-few_boxes
word_over-requires-clause-few_boxes g c κs within = rw c.deref.ensures.value c.in-Ok.ensures.few_boxes
