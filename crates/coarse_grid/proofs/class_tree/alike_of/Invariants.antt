use Rattle.coarse_grid.specs.Nearby.{AreFlagged}
use Rattle.coarse_grid.proofs.class_tree.alike_of.Given as goal

abbrev pub invariant-loop-at : goal.invariant-loop-at
invariant-loop-at l = AreFlagged l.items l.parts l.at l.alike.items
