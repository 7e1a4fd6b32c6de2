use Rattle.std.proofs.Common.{◌-◌, length}
use Rattle.box_tree.proofs.Trees.{IsPassed}
use Rattle.crossings.proofs.Walks.{MeetsEntry}
use Rattle.crossings.proofs.unburied.meets_in.Given as goal

abbrev pub invariant-loop-at : goal.invariant-loop-at
invariant-loop-at l = IsPassed l.parts.entries.now l.parts.groups.now
    (MeetsEntry l.tech l.boxes l.number) l.at

abbrev pub decreases-loop-at : goal.decreases-loop-at
decreases-loop-at l = length l.parts.groups.now - l.at
