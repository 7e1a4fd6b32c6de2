use Rattle.std.proofs.Common.{◌-◌, ◌≤◌, length}
use Rattle.liao_wong.specs.Marked.{AreBlocksOf, AreUnmarked}
use Rattle.liao_wong.proofs.marks.next_marked.Given as goal

abbrev pub invariant-loop-at : goal.invariant-loop-at
invariant-loop-at l = record {
  from_start : l.start ≤ l.at;
  blocks : AreBlocksOf l.blocks l.flags;
  so_far : AreUnmarked l.flags l.start l.at;
}

abbrev pub decreases-loop-at : goal.decreases-loop-at
decreases-loop-at l = length l.flags - l.at
