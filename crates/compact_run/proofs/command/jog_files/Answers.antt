use Rattle.std.proofs.{lemmas.Result.err_from_is_err_and, Common.{List, subst}}
use Rattle.jog_lines.specs.declared.script.JogLine.{JogLine}
use Rattle.jog_command.specs.Jogs.{JogsTo}
use Rattle.command_files.{specs.Outputs.text_of, proofs.Coming.{unread, read_on, stopped, all_done, no_memory}}
use Rattle.compact_run.proofs.Coming.{laid_on}
use Rattle.compact_run.proofs.command.jog_files.Goals as goal

pub returns-in_err-technology : goal.returns-in_err-technology
returns-in_err-technology g c =
    let p = err_from_is_err_and c.from_residual.result c.from_residual.ensures.1 in
    let e = c.in_err-technology.ensures in
    rw p.1 (rw p.2 (unread e.refused e.refusal e.over e.asked e.counted e.counts))

pub returns-in_err-sticks : goal.returns-in_err-sticks
returns-in_err-sticks g c =
    let p = err_from_is_err_and c.from_residual-in_err-sticks.result c.from_residual-in_err-sticks.ensures.1 in
    let t = c.in_ok-technology.ensures in
    let e = c.in_err-sticks.ensures in
    rw p.1 (rw p.2
    (read_on t.technology t.asked t.counts (unread e.refused e.refusal e.over e.asked e.counted e.counts)))

pub returns-in_err-sizes : goal.returns-in_err-sizes
returns-in_err-sizes g c =
    let p = err_from_is_err_and c.from_residual-in_err-sizes.result c.from_residual-in_err-sizes.ensures.1 in
    let t = c.in_ok-technology.ensures in
    let d = c.in_ok-sticks.ensures in
    rw p.1 (rw p.2
    (read_on t.technology t.asked t.counts
    (read_on d.design d.asked d.counts (stopped c.in_err-sizes.ensures.refused))))

pub returns-in_err-lines : goal.returns-in_err-lines
returns-in_err-lines g c =
    let p = err_from_is_err_and c.from_residual-in_err-lines.result c.from_residual-in_err-lines.ensures.1 in
    let t = c.in_ok-technology.ensures in
    let d = c.in_ok-sticks.ensures in
    let s = c.in_ok-sizes.ensures.laid_out in
    let e = c.in_err-lines.ensures in
    rw p.1 (rw p.2
    (read_on t.technology t.asked t.counts
    (read_on d.design d.asked d.counts
    (laid_on s.plan s.masters s.steps s.are_masters s.laid_out
    (unread e.refused e.refusal e.over e.asked e.counted e.counts)))))

pub returns-in_err-jog : goal.returns-in_err-jog
returns-in_err-jog g c =
    let p = err_from_is_err_and c.from_residual-in_err-jog.result c.from_residual-in_err-jog.ensures.1 in
    let t = c.in_ok-technology.ensures in
    let d = c.in_ok-sticks.ensures in
    let l = c.in_ok-lines.ensures in
    let s = c.in_ok-sizes.ensures.laid_out in
    rw p.1 (rw p.2
    (read_on t.technology t.asked t.counts
    (read_on d.design d.asked d.counts
    (laid_on s.plan s.masters s.steps s.are_masters s.laid_out (read_on l.script l.asked l.counts no_memory)))))

pub returns : goal.returns
returns g c =
    let t = c.in_ok-technology.ensures in
    let d = c.in_ok-sticks.ensures in
    let l = c.in_ok-lines.ensures in
    let s = c.in_ok-sizes.ensures.laid_out in
    let J : List JogLine → Type 0 =
    λ lines. JogsTo c.in_ok-technology.technology c.args.axes.now c.in_ok-sticks.sticks lines
    (text_of c.in_ok-jog.field-0) c.in_ok-jog.field-0.report in
    let jogs : J c.in_ok-lines.lines.items = subst J c.deref.ensures.value c.in_ok-jog.ensures in
    read_on t.technology t.asked t.counts
    (read_on d.design d.asked d.counts
    (laid_on s.plan s.masters s.steps s.are_masters s.laid_out
    (read_on l.script l.asked l.counts (all_done jogs))))
