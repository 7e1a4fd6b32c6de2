use Rattle.std.proofs.Common.{Contains, take, true}
use Rattle.net_extract.specs.Nearby.{AreFound, query_of}
use Rattle.net_extract.proofs.over.push_near.Given as goal

abbrev pub invariant-loop-other : goal.invariant-loop-other
invariant-loop-other l =
    AreFound (Contains (take l.other-index l.nearby)) (query_of l.near) true l.fn.found.items l.found.items
