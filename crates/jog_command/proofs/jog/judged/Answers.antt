use Rattle.std.proofs.{Common.{sym, ◌∙◌}, lemmas.Bool.true≢false}
use Rattle.command_files.specs.Refusal.{message_text}
use Rattle.jog_command.proofs.{Jogging.not_better, OneLaidOut.not_laid_out_too}
use Rattle.jog_command.proofs.jog.judged.Goals as goal

pub returns-in-Ok-clause-dropped : goal.returns-in-Ok-clause-dropped
returns-in-Ok-clause-dropped g c =
    let sizes = c.in-Ok.sizes in
    let better = rw c.deref.ensures.value at c.is_better.ensures in
    not_better c.args.tech.now c.args.axes.now c.args.before.now c.args.master c.args.design sizes.numbers.items
    sizes.widths.items c.in-Ok.ensures.laid_out
    (λ is. true≢false (sym (better.1 is) ∙ c.if-is_better.false))

pub returns-clause-dropped : goal.returns-clause-dropped
returns-clause-dropped g c = λ ns ws k.
    let refusal = c.in-Err.refusal in
    not_laid_out_too c.args.tech.now c.args.axes.now c.args.design refusal.status (message_text refusal.line)
    c.in-Err.ensures.refused
    (λ is. true≢false (sym (c.wants_memory.ensures.1 is) ∙ c.if-wants_memory.false)) ns ws k.laid_out
