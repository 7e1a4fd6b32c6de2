use Rattle.std.proofs.{lemmas.Result.err_from_is_err_and, Common.{List, sym, subst}}
use Rattle.edit_lines.specs.declared.script.EditLine.{EditLine}
use Rattle.edit_command.specs.Edits.{EditsTo}
use Rattle.command_files.proofs.Coming.{unread, read_on, stopped, so_on, all_done, no_memory}
use Rattle.compact_run.proofs.Coming.{made_on}
use Rattle.compact_run.proofs.command.edits_over.Goals as goal

pub returns-in_err-start : goal.returns-in_err-start
returns-in_err-start g c =
    let p = err_from_is_err_and c.from_residual.result c.from_residual.ensures.1 in
    rw p.1 (rw p.2 (stopped c.in_err-start.ensures.refused))

pub returns-in_err-lines : goal.returns-in_err-lines
returns-in_err-lines g c =
    let p = err_from_is_err_and c.from_residual-in_err-lines.result c.from_residual-in_err-lines.ensures.1 in
    let s = c.in_ok-start.ensures in
    let e = c.in_err-lines.ensures in
    rw p.1 (rw p.2
    (made_on c.in_ok-start.start.plan c.in_ok-start.start.masters.items s.of_design
    (so_on tt s.clean (unread e.refused e.refusal e.over e.asked e.counted e.counts))))

pub returns-in_err-text : goal.returns-in_err-text
returns-in_err-text g c =
    let p = err_from_is_err_and c.from_residual-in_err-text.result c.from_residual-in_err-text.ensures.1 in
    let l = c.in_ok-lines.ensures in
    let s = c.in_ok-start.ensures in
    rw p.1 (rw p.2
    (made_on c.in_ok-start.start.plan c.in_ok-start.start.masters.items s.of_design
    (so_on tt s.clean (read_on l.script l.asked l.counts no_memory))))

pub returns-in_err-in_one_chunk : goal.returns-in_err-in_one_chunk
returns-in_err-in_one_chunk g c =
    let p = err_from_is_err_and c.from_residual-in_err-in_one_chunk.result
    c.from_residual-in_err-in_one_chunk.ensures.1 in
    let l = c.in_ok-lines.ensures in
    let s = c.in_ok-start.ensures in
    rw p.1 (rw p.2
    (made_on c.in_ok-start.start.plan c.in_ok-start.start.masters.items s.of_design
    (so_on tt s.clean (read_on l.script l.asked l.counts no_memory))))

pub returns : goal.returns
returns g c =
    let l = c.in_ok-lines.ensures in
    let s = c.in_ok-start.ensures in
    let numbers = c.in_ok-start.start.plan.masters in
    let E : List EditLine → Type 0 =
    λ lines. EditsTo c.args.technology.now c.args.axes.now numbers c.args.sticks lines c.in_ok-text.text.items in
    let read : E c.in_ok-lines.lines.items = subst E c.deref.ensures.value c.in_ok-text.ensures in
    let edits = subst (EditsTo c.args.technology.now c.args.axes.now numbers c.args.sticks c.in_ok-lines.lines.items)
    (sym c.in_ok-in_one_chunk.ensures.text) read in
    made_on c.in_ok-start.start.plan c.in_ok-start.start.masters.items s.of_design
    (so_on tt s.clean (read_on l.script l.asked l.counts (all_done (edits, c.in_ok-in_one_chunk.ensures.report))))
