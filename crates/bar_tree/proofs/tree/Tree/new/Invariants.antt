use Rattle.std.proofs.Common.{◌-◌, ◌≤◌}
use Rattle.std.specs.List.{All}
use Rattle.bar_tree.specs.Trees.{IsLevelOver}
use Rattle.bar_tree.proofs.tree.Tree.new.Given as goal

abbrev pub invariant-loop-shift : goal.invariant-loop-shift
invariant-loop-shift l = record { least : 3 ≤ l.shift; few : l.shift ≤ 37; levels : All (IsLevelOver l.places) l.levels.items }

abbrev pub decreases-loop-shift : goal.decreases-loop-shift
decreases-loop-shift l = 40 - l.shift
