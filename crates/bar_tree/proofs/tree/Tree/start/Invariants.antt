use Rattle.std.proofs.Common.{◌≡◌, length, slice_set, true}
use Rattle.std.specs.List.{AllWithin}
use Rattle.bar_tree.specs.Trees.{IsLevelOf}
use Rattle.bar_tree.proofs.tree.Tree.start.Given as goal

abbrev pub invariant-loop-level : goal.invariant-loop-level
invariant-loop-level l = record {
  counted : length l.level-items ≡ length l.fn.self.levels.items;
  come : AllWithin (IsLevelOf l.bars (slice_set l.fn.self.started.items l.place true)) l.level-items 0 l.level-index;
  left : AllWithin (IsLevelOf l.bars l.fn.self.started.items) l.level-items l.level-index (length l.level-items);
}
