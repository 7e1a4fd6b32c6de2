use Rattle.bar_sweep.proofs.MetOwners.{MetFrom}
use Rattle.std.proofs.Common.{◌≤◌, length}
use Rattle.bar_sweep.proofs.lasts.lasts_of.Given as goal

abbrev pub invariant-loop-place : goal.invariant-loop-place
invariant-loop-place l = record {
  among : l.place ≤ length l.bars;
  met : MetFrom l.bars l.met.items l.lasts.items l.place;
}

abbrev pub decreases-loop-place : goal.decreases-loop-place
decreases-loop-place l = l.place
