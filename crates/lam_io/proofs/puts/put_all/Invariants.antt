use Rattle.std.{proofs.Common.{◌≤◌, take}, specs.Prelude.flat_map}
use Rattle.lam_io.specs.Io.{Appends}
use Rattle.lam_io.proofs.puts.put_all.Given as goal

abbrev pub invariant-loop-chunk : goal.invariant-loop-chunk
invariant-loop-chunk g l = record {
  grown : Appends (g.S.Sink.told l.initial.out) (g.S.Sink.told l.out)
      (flat_map (λ chunk. chunk.items) (take l.chunk-index l.chunks));
  counted : g.S.Sink.faults l.initial.out ≤ g.S.Sink.faults l.out;
}
