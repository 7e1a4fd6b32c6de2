use Rattle.std.proofs.Common.{drop}
use Rattle.cif_read.specs.{Readings.HasRead, Ahead.AreReady}
use Rattle.cif_read.proofs.reading.carry_out.Given as goal

abbrev pub invariant-loop-ready : goal.invariant-loop-ready
invariant-loop-ready l = record {
  so_far : HasRead l.dialect l.bytes l.read l.reading;
  ready : AreReady l.bytes l.read (drop l.ready-index l.ready-items) l.portion.to;
}
