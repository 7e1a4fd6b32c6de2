use Rattle.std.proofs.Common.{◌+◌, ◌-◌, length}
use Rattle.graph_search.{specs.Search.unmarked, proofs.Spreading.IsSpreading}
use Rattle.net_extract.specs.Grounds.{AreBesideOn, IsSearchOn}
use Rattle.net_extract.proofs.searches.spread.Given as goal

abbrev pub invariant-loop-passed : goal.invariant-loop-passed
invariant-loop-passed l = record {
  search : IsSearchOn l.ground l.search;
  spreading : IsSpreading (AreBesideOn l.ground) l.start l.net l.fn.search.frontier.marks.items
      l.search.frontier.marks.items l.search.frontier.queue.items l.passed;
}

abbrev pub decreases-loop-passed : goal.decreases-loop-passed
decreases-loop-passed l = (unmarked l.search.frontier.marks.items + length l.search.frontier.queue.items) - l.passed
