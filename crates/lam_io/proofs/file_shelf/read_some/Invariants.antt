-- An interrupted read leaves the known bytes as they were.
use Rattle.std.specs.Io.KnownBytes as known
use Rattle.lam_io.proofs.file_shelf.read_some.Given as goal

abbrev pub invariant-loop : goal.invariant-loop
invariant-loop g l = known.Keeps (g.R.Read.remaining l.initial.reader) (g.R.Read.remaining l.reader)
