use Rattle.std.proofs.Common.{◌-◌, ◌<◌, ◌≤◌, ℕ}
use Rattle.bar_tree.specs.Trees.{IsAskedFor}
use Rattle.bar_tree.proofs.tree.Tree.first.Given as goal

abbrev pub invariant-loop-place : goal.invariant-loop-place
invariant-loop-place l = record {
  after : l.from ≤ l.place;
  none : (p : ℕ) → l.from ≤ p → p < l.place → IsAskedFor l.bars l.self l.query p → ⊥;
}

abbrev pub decreases-loop-place : goal.decreases-loop-place
decreases-loop-place l = l.to - l.place
