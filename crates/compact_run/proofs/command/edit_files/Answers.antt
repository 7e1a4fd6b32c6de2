use Rattle.std.proofs.lemmas.Result.{err_from_is_err_and}
use Rattle.command_files.proofs.Coming.{unread, read_on}
use Rattle.compact_run.proofs.command.edit_files.Goals as goal

pub returns-in_err-technology : goal.returns-in_err-technology
returns-in_err-technology g c =
    let p = err_from_is_err_and c.from_residual.result c.from_residual.ensures.1 in
    let e = c.in_err-technology.ensures in
    rw p.1 (rw p.2 (unread e.refused e.refusal e.over e.asked e.counted e.counts))

pub returns-in_err-sticks : goal.returns-in_err-sticks
returns-in_err-sticks g c =
    let p = err_from_is_err_and c.from_residual-in_err-sticks.result c.from_residual-in_err-sticks.ensures.1 in
    let t = c.in_ok-technology.ensures in
    let e = c.in_err-sticks.ensures in
    rw p.1 (rw p.2
    (read_on t.technology t.asked t.counts (unread e.refused e.refusal e.over e.asked e.counted e.counts)))

pub returns : goal.returns
returns g c =
    let t = c.in_ok-technology.ensures in
    let d = c.in_ok-sticks.ensures in
    read_on t.technology t.asked t.counts (read_on d.design d.asked d.counts c.edits_over.ensures)
