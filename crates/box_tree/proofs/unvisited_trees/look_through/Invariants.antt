use Rattle.std.{proofs.Common.◌≤◌, specs.Prelude.{IsTrue, max}}
use Rattle.box_tree.specs.{Found.AreGathered, UnvisitedTrees.{IsUnvisitedWithin, IsRunVisited}}
use Rattle.box_tree.proofs.unvisited_trees.look_through.Given as goal

abbrev pub invariant-loop-place : goal.invariant-loop-place
invariant-loop-place l = record {
  so_far : l.place ≤ max l.first l.end;
  gathered : AreGathered (IsUnvisitedWithin l.parts l.query l.marks l.first l.place) l.fn.found.items l.found.items;
  marked : IsTrue l.all → IsRunVisited l.parts l.marks l.first l.place;
}
