use Rattle.std.proofs.Common.{[], ◌-◌, length}
use Rattle.box_tree.{specs.UnvisitedTrees.AreExhausted, proofs.Walk.IsWalked}
use Rattle.box_tree.proofs.unvisited_trees.walk.Given as goal

abbrev pub invariant-loop-at : goal.invariant-loop-at
invariant-loop-at l = record {
  walked : IsWalked l.parts l.query l.marks [] l.at l.found.items;
  exhausted : AreExhausted l.parts l.marks l.exhausted.items;
}

abbrev pub decreases-loop-at : goal.decreases-loop-at
decreases-loop-at l = length l.parts.groups.items - l.at
