use Rattle.std.proofs.Common.{◌-◌, length}
use Rattle.crossings.proofs.MetEntries.{IsMetTo}
use Rattle.crossings.proofs.bad_pairs.add_met.Given as goal

abbrev pub invariant-loop-at : goal.invariant-loop-at
invariant-loop-at l = IsMetTo l.tech l.boxes l.number l.parts.entries.now l.parts.groups.now
    l.fn.found.items l.at l.found.items

abbrev pub decreases-loop-at : goal.decreases-loop-at
decreases-loop-at l = length l.parts.groups.now - l.at
