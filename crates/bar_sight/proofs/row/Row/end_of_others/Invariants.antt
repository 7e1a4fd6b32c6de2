use Rattle.std.proofs.Common.{◌<◌, ◌-◌, length}
use Rattle.bar_sight.specs.{Looks.IsOwned}
use Rattle.bar_sight.proofs.row.Row.end_of_others.Given as goal

abbrev pub invariant-loop-k : goal.invariant-loop-k
invariant-loop-k l =
    record {
      after : l.place < l.from;
      owned : IsOwned l.self l.place l.above l.from l.owner;
    }

abbrev pub decreases-loop-k : goal.decreases-loop-k
decreases-loop-k l = length l.self.bars.items - l.from
