use Rattle.net_extract.specs.Entries.{AreMetalBelow}
use Rattle.net_extract.proofs.entries.metal_entries.Given as goal

abbrev pub invariant-loop-number : goal.invariant-loop-number
invariant-loop-number l = AreMetalBelow l.boxes l.number l.entries.items
