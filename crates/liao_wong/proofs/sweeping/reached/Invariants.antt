use Rattle.std.proofs.Common.{◌≡◌, ℕ, ◌<◌, true, length, get_or}
use Rattle.liao_wong.{specs.Sweeping.keeps_of, proofs.Sweeps.IsMarked}
use Rattle.liao_wong.proofs.sweeping.reached.Given as goal

abbrev pub invariant-loop-latest : goal.invariant-loop-latest
invariant-loop-latest l = record {
  one_each : length l.keeps.items ≡ length l.entries;
  origin : keeps_of l.keeps.items 0 ≡ true;
  marked : (v : ℕ) → v < l.latest-index → keeps_of l.keeps.items (get_or l.last v 0) ≡ true;
}

abbrev pub invariant-loop-n : goal.invariant-loop-n
invariant-loop-n l = IsMarked l.entries l.last l.keeps.items l.n

abbrev pub decreases-loop-n : goal.decreases-loop-n
decreases-loop-n l = l.n
