use Rattle.std.proofs.Common.{ℕ, ◌<◌}
use Rattle.crossings.specs.Pairs.{AreCrossingsBelow, IsSettled}
use Rattle.crossings.proofs.finding.crossings_by.Given as goal

abbrev pub invariant-loop-number : goal.invariant-loop-number
invariant-loop-number l = AreCrossingsBelow l.tech l.boxes l.number l.crossings.items
    × ((a : ℕ) → a < l.number → IsSettled l.tech l.boxes a)
