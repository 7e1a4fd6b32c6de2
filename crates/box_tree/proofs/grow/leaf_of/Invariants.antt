use Rattle.std.proofs.Common.{◌≡◌, ℕ, ◌+◌, ◌<◌, ◌≤◌}
use Rattle.box_tree.specs.Tree.{IsBounded, IsPlacedGroup, entry_of}
use Rattle.box_tree.proofs.grow.leaf_of.Given as goal

abbrev pub invariant-loop-place : goal.invariant-loop-place
invariant-loop-place l = record {
  placed : IsPlacedGroup l.leaf;
  starts : l.leaf.start ≡ l.start;
  ends : l.start + l.leaf.count ≡ l.place;
  inside : l.leaf.inside ≡ 0;
  within : (p : ℕ) → l.start ≤ p → p < l.place
      → IsBounded l.leaf (entry_of l.fn.sorted.entries.now p);
}
