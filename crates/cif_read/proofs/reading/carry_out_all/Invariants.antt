use Rattle.std.proofs.Common.{◌≡◌, drop}
use Rattle.cif_read.specs.{Readings.HasRead, Ahead.fitting_end}
use Rattle.cif_read.proofs.reading.carry_out_all.Given as goal

abbrev pub invariant-loop-portion : goal.invariant-loop-portion
invariant-loop-portion l = record {
  so_far : HasRead l.dialect l.bytes l.read l.reading;
  fits : fitting_end l.from l.portions ≡ fitting_end l.read (drop l.portion-index l.portions);
}
