use Rattle.std.proofs.Common.{◌+◌, ◌-◌, length}
use Rattle.graph_search.{specs.Search.{IsBeside, unmarked}, proofs.Spreading.IsSpreading}
use Rattle.graph_search.proofs.search.spread.Given as goal

abbrev pub invariant-loop-passed : goal.invariant-loop-passed
invariant-loop-passed l = IsSpreading (IsBeside l.neighbours) l.start l.net l.fn.marks.items l.marks.items
    l.reached.items l.passed

abbrev pub decreases-loop-passed : goal.decreases-loop-passed
decreases-loop-passed l = (unmarked l.marks.items + length l.reached.items) - l.passed
