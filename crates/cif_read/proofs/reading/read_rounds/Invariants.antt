use Rattle.std.proofs.Common.{◌-◌, All, length}
use Rattle.cif_read.specs.{Readings.HasRead, Ahead.IsPortion}
use Rattle.cif_read.proofs.reading.read_rounds.Given as goal

abbrev pub invariant-loop-from : goal.invariant-loop-from
invariant-loop-from g l = record {
  so_far : HasRead l.dialect l.bytes l.from l.reading;
  portions : All (IsPortion l.bytes) l.portions.items;
}

abbrev pub decreases-loop-from : goal.decreases-loop-from
decreases-loop-from g l = length l.bytes - l.from
