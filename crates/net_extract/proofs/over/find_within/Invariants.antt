use Rattle.std.{proofs.Common.{◌≤◌, [], Contains}, specs.Prelude.max}
use Rattle.box_tree.specs.{Found.AreGathered, UnvisitedTrees.IsUnvisitedWithin}
use Rattle.net_extract.specs.{Lists.tags_of, Nearby.{AreFrom, query_of}}
use Rattle.net_extract.proofs.over.find_within.Given as goal

abbrev pub invariant-loop-place : goal.invariant-loop-place
invariant-loop-place l = record {
  so_far : l.place ≤ max l.first l.end;
  gathered : AreGathered (IsUnvisitedWithin l.parts (query_of l.near) [] l.first l.place)
      (tags_of l.fn.found.items) (tags_of l.found.items);
  from : AreFrom (Contains l.parts.entries.items) (query_of l.near) l.fn.found.items l.found.items;
}
