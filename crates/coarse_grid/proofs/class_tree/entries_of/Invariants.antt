use Rattle.coarse_grid.specs.Nearby.{AreItemEntries}
use Rattle.coarse_grid.proofs.class_tree.entries_of.Given as goal

abbrev pub invariant-loop-i : goal.invariant-loop-i
invariant-loop-i l = AreItemEntries l.coords l.items l.class l.i l.entries.items
