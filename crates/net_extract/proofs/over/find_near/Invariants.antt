use Rattle.std.proofs.Common.{take, true}
use Rattle.net_extract.specs.Nearby.{AreFound, IsInSome, query_of}
use Rattle.net_extract.proofs.over.find_near.Given as goal

abbrev pub invariant-loop-parts : goal.invariant-loop-parts
invariant-loop-parts l =
    AreFound (IsInSome (take l.parts-index l.trees)) (query_of l.near) true l.fn.found.items l.found.items
