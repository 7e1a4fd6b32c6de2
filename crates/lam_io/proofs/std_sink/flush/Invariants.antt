-- An interrupted flush leaves the known bytes as they were.
use Rattle.std.specs.Io.KnownBytes as known
use Rattle.lam_io.proofs.std_sink.flush.Given as goal

abbrev pub invariant-loop : goal.invariant-loop
invariant-loop g l = known.Keeps (g.W.Write.contents l.initial.writer) (g.W.Write.contents l.writer)
