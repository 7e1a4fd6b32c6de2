use Rattle.std.proofs.{lemmas.Result.err_from_is_err_and, Common.{inl, inr}}
use Rattle.command_files.proofs.Coming.{stopped, so_on, all_done, no_memory}
use Rattle.compact_run.proofs.Coming.{bench_judged}
use Rattle.compact_run.proofs.command.benched.Goals as goal

pub returns-in_err-line : goal.returns-in_err-line
returns-in_err-line g c =
    let p = err_from_is_err_and c.from_residual.result c.from_residual.ensures.1 in
    λ told faults.
    rw p.1 (rw p.2
    (stopped
    (inr (inl (bench_judged c.args.n _ _ c.in_err-line.ensures.refused, c.in_err-line.ensures.refused)))))

pub returns-in_err-in_one_chunk : goal.returns-in_err-in_one_chunk
returns-in_err-in_one_chunk g c =
    let p = err_from_is_err_and c.from_residual-in_err-in_one_chunk.result
    c.from_residual-in_err-in_one_chunk.ensures.1 in
    λ told faults. rw p.1 (rw p.2 no_memory)

pub returns : goal.returns
returns g c =
    λ told faults. so_on c.in_ok-line.line.items c.in_ok-line.ensures.line
    (all_done (c.in_ok-in_one_chunk.ensures.text, c.in_ok-in_one_chunk.ensures.report))
