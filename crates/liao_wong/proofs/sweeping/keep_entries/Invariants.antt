use Rattle.liao_wong.{proofs.Sweeps.IsCompacted, specs.Sweeping.keeps_of}
use Rattle.liao_wong.proofs.sweeping.keep_entries.Given as goal

abbrev pub invariant-loop-n : goal.invariant-loop-n
invariant-loop-n l = IsCompacted (keeps_of l.keeps) l.initial.entries.items l.entries.items l.n l.kept
