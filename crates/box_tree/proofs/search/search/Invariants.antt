use Rattle.std.proofs.Common.{◌-◌, length}
use Rattle.box_tree.{specs.Queries.Holds, proofs.Trees.IsPassed}
use Rattle.box_tree.proofs.search.search.Given as goal

abbrev pub invariant-loop-at : goal.invariant-loop-at
invariant-loop-at l = IsPassed l.entries l.groups (Holds l.query) l.at

abbrev pub decreases-loop-at : goal.decreases-loop-at
decreases-loop-at l = length l.groups - l.at
