use Rattle.std.proofs.Common.{◌≤◌, All, length}
use Rattle.cif_read.specs.declared.ahead.Stretch.{Stretch}
use Rattle.cif_read.proofs.ahead.stretches_from.Given as goal

abbrev pub invariant-loop-share : goal.invariant-loop-share
invariant-loop-share l = record {
  within : l.begin ≤ length l.bytes;
  each : All (λ (stretch : Stretch). stretch.from ≤ length l.bytes) l.stretches.items;
}
