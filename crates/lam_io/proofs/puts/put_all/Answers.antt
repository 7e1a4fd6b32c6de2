use Rattle.std.proofs.lemmas.Result.{err_from_is_err_and}
use Rattle.lam_io.proofs.ChunksPut.{prefix_of_chunk, text_at}
use Rattle.lam_io.proofs.puts.put_all.Goals as goal

pub returns-in_err-put-clause-err : goal.returns-in_err-put-clause-err
returns-in_err-put-clause-err g c =
    let p = err_from_is_err_and c.from_residual.result c.from_residual.ensures.1 in
    let text = text_at (λ chunk. chunk.items) c.args.chunks.now c.loop-chunk.chunk-index c.chunk-item.result
    c.loop-chunk-test.true c.chunk-item.is in
    rw p.1 (rw text
    (prefix_of_chunk _ _ _ _ _ _ c.loop-chunk.invariant.grown
    (rw c.deref.ensures.value at c.in_err-put.ensures.err)))
