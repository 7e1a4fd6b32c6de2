use Rattle.std.proofs.Common.{take}
use Rattle.graph_search.specs.Search.{AreVisited}
use Rattle.graph_search.proofs.search.visit.Given as goal

abbrev pub invariant-loop-part : goal.invariant-loop-part
invariant-loop-part l = AreVisited (take l.part-index l.parts) l.net l.fn.marks.items l.marks.items l.fn.queue.items
    l.queue.items
