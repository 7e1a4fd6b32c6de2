-- What was taken so far is a prefix of the chunk.
use Rattle.std.proofs.Common.{◌≡◌, ◌++◌, length}
use Rattle.std.specs.Io.KnownBytes as known
use Rattle.lam_io.specs.Io.{Bytes}
use Rattle.lam_io.proofs.std_sink.write_whole.Given as goal

abbrev pub invariant-loop-rest : goal.invariant-loop-rest
invariant-loop-rest g l =
    (sent : Bytes) × (l.chunk ≡ sent ++ l.rest)
    × known.Appends (g.W.Write.contents l.initial.writer) (g.W.Write.contents l.writer) sent

abbrev pub decreases-loop-rest : goal.decreases-loop-rest
decreases-loop-rest g l = length l.rest
