use Rattle.std.proofs.Common.{ℕ, ◌≤◌, ◌<◌}
use Rattle.bar_tree.specs.Trees.{IsAskedFor}
use Rattle.bar_tree.proofs.tree.Tree.past.Given as goal

abbrev pub invariant-loop-level : goal.invariant-loop-level
invariant-loop-level l = record {
  after : l.place ≤ l.end;
  none : (p : ℕ) → l.place ≤ p → p < l.end → IsAskedFor l.bars l.self l.query p → ⊥;
}
