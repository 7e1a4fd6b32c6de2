-- The bytes so far are those that the reader gave, and no more than asked for.
use Rattle.std.proofs.Common.{◌-◌, ◌≤◌, vec_len}
use Rattle.std.specs.Io.KnownBytes as known
use Rattle.lam_io.proofs.file_shelf.read_start.Given as goal

abbrev pub invariant-loop-chunk : goal.invariant-loop-chunk
invariant-loop-chunk g l = record {
  within : vec_len l.bytes ≤ l.most;
  given : known.Consumes (g.R.Read.remaining l.initial.reader) (g.R.Read.remaining l.reader) l.bytes.items;
}

abbrev pub decreases-loop-chunk : goal.decreases-loop-chunk
decreases-loop-chunk g l = l.most - vec_len l.bytes
