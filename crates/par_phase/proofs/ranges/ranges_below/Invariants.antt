use Rattle.std.proofs.Common.{◌≡◌, length}
use Rattle.par_phase.specs.{Ranges.AreRanges, Blocks.block_start}
use Rattle.par_phase.proofs.ranges.ranges_below.Given as goal

abbrev pub invariant-loop-k : goal.invariant-loop-k
invariant-loop-k l = AreRanges 0 l.ranges.items (block_start l.len l.count l.k)
    × (length l.ranges.items ≡ l.k)
