use Rattle.std.proofs.lemmas.Result.{err_from_is_err_and}
use Rattle.command_files.proofs.Coming.{unread, read_on, stopped, no_memory}
use Rattle.compact_run.proofs.Coming.{told_on}
use Rattle.compact_run.proofs.command.cif_files.Goals as goal

pub returns-in_err-rules : goal.returns-in_err-rules
returns-in_err-rules g c =
    let p = err_from_is_err_and c.from_residual.result c.from_residual.ensures.1 in
    let e = c.in_err-rules.ensures in
    rw p.1 (rw p.2 (unread e.refused e.refusal e.over e.asked e.counted e.counts))

pub returns-in_err-text : goal.returns-in_err-text
returns-in_err-text g c =
    let p = err_from_is_err_and c.from_residual-in_err-text.result c.from_residual-in_err-text.ensures.1 in
    let r = c.in_ok-rules.ensures in
    let e = c.in_err-text.ensures in
    rw p.1 (rw p.2
    (read_on r.technology r.asked r.counts (unread e.refused e.refusal e.over e.asked e.counted e.counts)))

pub returns-in_err-output : goal.returns-in_err-output
returns-in_err-output g c =
    let p = err_from_is_err_and c.from_residual-in_err-output.result c.from_residual-in_err-output.ensures.1 in
    let r = c.in_ok-rules.ensures in
    let x = c.in_ok-text.ensures in
    rw p.1 (rw p.2
    (read_on r.technology r.asked r.counts
    (read_on x.text x.asked x.counts (stopped (rw c.deref.ensures.value at c.in_err-output.ensures.refused)))))

pub returns-in_err-in_one_chunk : goal.returns-in_err-in_one_chunk
returns-in_err-in_one_chunk g c =
    let p = err_from_is_err_and c.from_residual-in_err-in_one_chunk.result
    c.from_residual-in_err-in_one_chunk.ensures.1 in
    let r = c.in_ok-rules.ensures in
    let x = c.in_ok-text.ensures in
    rw p.1 (rw p.2 (read_on r.technology r.asked r.counts (read_on x.text x.asked x.counts (no_memory))))

pub returns : goal.returns
returns g c =
    let r = c.in_ok-rules.ensures in
    let x = c.in_ok-text.ensures in
    let made = rw c.deref.ensures.value at c.in_ok-output.ensures.output in
    read_on r.technology r.asked r.counts
    (read_on x.text x.asked x.counts
    (told_on c.args.job c.in_ok-rules.rules c.in_ok-text.text.items c.in_ok-output.output.items made
    (c.in_ok-in_one_chunk.ensures.text, c.in_ok-in_one_chunk.ensures.report)))
