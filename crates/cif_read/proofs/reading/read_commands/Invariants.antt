use Rattle.std.proofs.Common.{◌-◌, length}
use Rattle.cif_read.specs.Readings.{HasRead}
use Rattle.cif_read.proofs.reading.read_commands.Given as goal

abbrev pub invariant-loop-begin : goal.invariant-loop-begin
invariant-loop-begin l = HasRead l.dialect l.bytes l.read l.reading

abbrev pub decreases-loop-begin : goal.decreases-loop-begin
decreases-loop-begin l = length l.bytes - l.read
