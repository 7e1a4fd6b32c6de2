use Rattle.std.proofs.Common.{◌-◌, ◌≤◌, length}
use Rattle.box_tree.{specs.Queries.Holds, proofs.Taken.IsTakenTo}
use Rattle.box_tree.proofs.search.search_few.Given as goal

abbrev pub invariant-loop-next : goal.invariant-loop-next
invariant-loop-next l = record {
  taken : IsTakenTo l.entries l.groups (Holds l.query) l.next l.found.items;
  few : length l.found.items ≤ l.most;
}

abbrev pub decreases-loop-next : goal.decreases-loop-next
decreases-loop-next l = length l.groups - l.next
