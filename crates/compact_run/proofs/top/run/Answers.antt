use Rattle.command_files.specs.{Outputs.text_of, Refusal.message_text}
use Rattle.compact_run.proofs.Endings.{ends_written, ends_refused, ends_free, ends_done, asks_for_all, untouched}
use Rattle.run_words.specs.Words.{command_of, texts_of}
use Rattle.compact_run.proofs.top.run.Goals as goal

pub returns-in-Ok-clause-answer : goal.returns-in-Ok-clause-answer
returns-in-Ok-clause-answer g c = λ t told.
    ends_written (texts_of c.args.words.now) t.files c.write.result _ _ _ _ _ _ (text_of c.in-Ok.output)
    c.in-Ok.output.report
    c.write.ensures.answer c.write.ensures.written c.write.ensures.told c.write.ensures.prefix c.write.ensures.line
    c.write.ensures.report_prefix c.write.ensures.report_fault (c.in-Ok.ensures.given t told)

pub returns-in-Ok-clause-asked : goal.returns-in-Ok-clause-asked
returns-in-Ok-clause-asked g c =
    asks_for_all (command_of (texts_of c.args.words.now)) c.write.result _ _ c.write.ensures.answer
    c.in-Ok.ensures.asked

pub returns-in-Err-clause-answer : goal.returns-in-Err-clause-answer
returns-in-Err-clause-answer g c = λ t told.
    rw c.refuse.ensures.status
    (ends_refused (texts_of c.args.words.now) t.files c.in-Err.refusal.status (message_text c.in-Err.refusal.line)
    _ _ _ _ _ c.in-Err.ensures.refusal (c.in-Err.ensures.given t told) c.refuse.ensures.line)

pub returns-in-Err-clause-untouched : goal.returns-in-Err-clause-untouched
returns-in-Err-clause-untouched g c = untouched c.refuse.result _

pub returns-in-Ok-clause-complete : goal.returns-in-Ok-clause-complete
returns-in-Ok-clause-complete g c = λ t told none shelf out report.
    ends_done c.write.result c.write.ensures.answer (λ e. out (c.write.ensures.fault e))
    (λ e. report (c.write.ensures.report_fault e))

pub returns-in-Err-clause-complete : goal.returns-in-Err-clause-complete
returns-in-Err-clause-complete g c = λ t told none shelf out report.
    rw c.refuse.ensures.status
    (ends_free (command_of (texts_of c.args.words.now)) t.files c.in-Err.refusal.status
    (message_text c.in-Err.refusal.line) _ _ none (c.in-Err.ensures.given t told) c.in-Err.ensures.counted shelf)
