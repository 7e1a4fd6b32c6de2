use Rattle.std.proofs.Common.{◌-◌, ◌≤◌, length}
use Rattle.cif_read.specs.Ahead.{AreReady}
use Rattle.cif_read.proofs.ahead.portion_of.Given as goal

abbrev pub invariant-loop-to : goal.invariant-loop-to
invariant-loop-to l = record {
  ready : AreReady l.bytes l.stretch.from l.commands.items l.to;
  within : l.to ≤ length l.bytes;
}

abbrev pub decreases-loop-to : goal.decreases-loop-to
decreases-loop-to l = l.stretch.to - l.to
