use Rattle.std.proofs.Common.{◌-◌}
use Rattle.box_tree.proofs.Walk.{IsCovered}
use Rattle.box_tree.proofs.unvisited_trees.is_exhausted_inside.Given as goal

abbrev pub invariant-loop-next : goal.invariant-loop-next
invariant-loop-next l = IsCovered l.parts l.exhausted l.at l.next

abbrev pub decreases-loop-next : goal.decreases-loop-next
decreases-loop-next l = l.end - l.next
