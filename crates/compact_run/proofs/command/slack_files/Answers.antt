use Rattle.std.proofs.{lemmas.Result.err_from_is_err_and, Common.{sym, subst}}
use Rattle.design_commands.specs.Slacks.{SlacksTo}
use Rattle.command_files.proofs.Coming.{unread, read_on, stopped, all_done, no_memory}
use Rattle.compact_run.proofs.Coming.{laid_on}
use Rattle.compact_run.proofs.command.slack_files.Goals as goal

pub returns-in_err-technology : goal.returns-in_err-technology
returns-in_err-technology g c =
    let p = err_from_is_err_and c.from_residual.result c.from_residual.ensures.1 in
    let e = c.in_err-technology.ensures in
    rw p.1 (rw p.2 (unread e.refused e.refusal e.over e.asked e.counted e.counts))

pub returns-in_err-sticks : goal.returns-in_err-sticks
returns-in_err-sticks g c =
    let p = err_from_is_err_and c.from_residual-in_err-sticks.result c.from_residual-in_err-sticks.ensures.1 in
    let t = c.in_ok-technology.ensures in
    let e = c.in_err-sticks.ensures in
    rw p.1 (rw p.2
    (read_on t.technology t.asked t.counts (unread e.refused e.refusal e.over e.asked e.counted e.counts)))

pub returns-in_err-text : goal.returns-in_err-text
returns-in_err-text g c =
    let p = err_from_is_err_and c.from_residual-in_err-text.result c.from_residual-in_err-text.ensures.1 in
    let t = c.in_ok-technology.ensures in
    let d = c.in_ok-sticks.ensures in
    rw p.1 (rw p.2
    (read_on t.technology t.asked t.counts
    (read_on d.design d.asked d.counts (stopped c.in_err-text.ensures.refused))))

pub returns-in_err-in_one_chunk : goal.returns-in_err-in_one_chunk
returns-in_err-in_one_chunk g c =
    let p = err_from_is_err_and c.from_residual-in_err-in_one_chunk.result
    c.from_residual-in_err-in_one_chunk.ensures.1 in
    let t = c.in_ok-technology.ensures in
    let d = c.in_ok-sticks.ensures in
    rw p.1 (rw p.2 (read_on t.technology t.asked t.counts (read_on d.design d.asked d.counts (no_memory))))

pub returns : goal.returns
returns g c =
    let t = c.in_ok-technology.ensures in
    let d = c.in_ok-sticks.ensures in
    let s = c.in_ok-text.ensures.done in
    let slacks = subst (SlacksTo c.in_ok-technology.technology c.args.axes.now c.in_ok-sticks.sticks)
    (sym c.in_ok-in_one_chunk.ensures.text) s in
    read_on t.technology t.asked t.counts
    (read_on d.design d.asked d.counts
    (laid_on s.plan s.masters s.steps s.are_masters s.laid_out
    (all_done (slacks, c.in_ok-in_one_chunk.ensures.report))))
