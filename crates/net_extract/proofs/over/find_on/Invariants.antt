use Rattle.std.proofs.Common.{◌-◌, length}
use Rattle.net_extract.{specs.Nearby.query_of, proofs.Nearby.IsSought}
use Rattle.net_extract.proofs.over.find_on.Given as goal

abbrev pub invariant-loop-at : goal.invariant-loop-at
invariant-loop-at l = IsSought l.parts (query_of l.near) l.fn.found.items l.at l.found.items

abbrev pub decreases-loop-at : goal.decreases-loop-at
decreases-loop-at l = length l.parts.groups.items - l.at
