use Rattle.std.proofs.Common.{ℕ, ◌<◌, ◌-◌}
use Rattle.bar_tree.specs.Trees.{IsAskedFor}
use Rattle.bar_sight.specs.Sight.{IsScreen}
use Rattle.bar_sight.proofs.row.Row.screen_in.Given as goal

abbrev pub invariant-loop-k : goal.invariant-loop-k
invariant-loop-k l =
    record {
      after : l.place < l.from;
      none : (k : ℕ) → k < l.from → IsAskedFor l.self.bars.items l.tree l.query k → IsScreen l.self l.place l.far k → ⊥;
    }

abbrev pub decreases-loop-k : goal.decreases-loop-k
decreases-loop-k l = l.far - l.from
