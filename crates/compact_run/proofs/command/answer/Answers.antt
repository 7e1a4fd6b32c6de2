use Rattle.std.proofs.Common.{Some, Err, ap, ◌∙◌}
use Rattle.run_words.specs.{Commands.command_from, Words.{command_of, texts_of}}
use Rattle.compact_run.proofs.{PassLists.passes_mean, Coming.{of_command, words_refused}}
use Rattle.compact_run.proofs.command.answer.Goals as goal

pub returns-in-Err : goal.returns-in-Err
returns-in-Err g c =
    rw c.words_refusal.ensures
    (words_refused (command_of (texts_of c.args.words.now)) _ _ c.in-Err.fault
    (λ e. c.in-Err.ensures.usage (ap Err e)))

pub compact_files-requires-clause-both : goal.compact_files-requires-clause-both
compact_files-requires-clause-both g c = λ κs le.
    let message = rw (c.in-Compact.is) at c.in-Ok.ensures.passes in
    (passes_mean c.as_slice.result.now (message.0, message.1, c.as_slice.ensures ∙ message.2)).0

pub returns-in-Compact : goal.returns-in-Compact
returns-in-Compact g c =
    let is = c.in-Ok.ensures.command ∙ ap (λ z. Some (command_from z)) c.in-Compact.is in
    of_command is (rw c.as_slice.ensures at c.compact_files.ensures)

pub slack_files-requires-clause-both : goal.slack_files-requires-clause-both
slack_files-requires-clause-both g c = λ κs le.
    let message = rw (c.in-Slack.is) at c.in-Ok.ensures.passes in
    (passes_mean c.as_slice-in-Slack.result.now (message.0, message.1, c.as_slice-in-Slack.ensures ∙ message.2)).0

pub returns-in-Slack : goal.returns-in-Slack
returns-in-Slack g c =
    let is = c.in-Ok.ensures.command ∙ ap (λ z. Some (command_from z)) c.in-Slack.is in
    of_command is (rw c.as_slice-in-Slack.ensures at c.slack_files.ensures)

pub jog_files-requires-clause-both : goal.jog_files-requires-clause-both
jog_files-requires-clause-both g c = λ κs le.
    let message = rw (c.in-Jog.is) at c.in-Ok.ensures.passes in
    (passes_mean c.as_slice-in-Jog.result.now (message.0, message.1, c.as_slice-in-Jog.ensures ∙ message.2)).0

pub returns-in-Jog : goal.returns-in-Jog
returns-in-Jog g c =
    let is = c.in-Ok.ensures.command ∙ ap (λ z. Some (command_from z)) c.in-Jog.is in
    of_command is (rw c.as_slice-in-Jog.ensures at c.jog_files.ensures)

pub edit_files-requires-clause-both : goal.edit_files-requires-clause-both
edit_files-requires-clause-both g c = λ κs le.
    let message = rw (c.in-Edit.is) at c.in-Ok.ensures.passes in
    (passes_mean c.as_slice-in-Edit.result.now (message.0, message.1, c.as_slice-in-Edit.ensures ∙ message.2)).0

pub returns-in-Edit : goal.returns-in-Edit
returns-in-Edit g c =
    let is = c.in-Ok.ensures.command ∙ ap (λ z. Some (command_from z)) c.in-Edit.is in
    of_command is (rw c.as_slice-in-Edit.ensures at c.edit_files.ensures)

pub returns-in-Check : goal.returns-in-Check
returns-in-Check g c =
    let is = c.in-Ok.ensures.command ∙ ap (λ z. Some (command_from z)) c.in-Check.is in
    of_command is c.cif_files.ensures

pub returns-in-Breaks : goal.returns-in-Breaks
returns-in-Breaks g c =
    let is = c.in-Ok.ensures.command ∙ ap (λ z. Some (command_from z)) c.in-Breaks.is in
    of_command is c.cif_files-in-Breaks.ensures

pub returns-in-Extract : goal.returns-in-Extract
returns-in-Extract g c =
    let is = c.in-Ok.ensures.command ∙ ap (λ z. Some (command_from z)) c.in-Extract.is in
    of_command is c.cif_files-in-Extract.ensures

pub returns-in-Nets : goal.returns-in-Nets
returns-in-Nets g c =
    let is = c.in-Ok.ensures.command ∙ ap (λ z. Some (command_from z)) c.in-Nets.is in
    of_command is c.nets_files.ensures

pub returns-in-Fmt : goal.returns-in-Fmt
returns-in-Fmt g c =
    let is = c.in-Ok.ensures.command ∙ ap (λ z. Some (command_from z)) c.in-Fmt.is in
    of_command is c.fmt_file.ensures

pub returns-in-Bench : goal.returns-in-Bench
returns-in-Bench g c =
    let is = c.in-Ok.ensures.command ∙ ap (λ z. Some (command_from z)) c.in-Bench.is in
    of_command is (c.benched.ensures _ _)
