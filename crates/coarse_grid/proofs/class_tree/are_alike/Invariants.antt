use Rattle.std.proofs.Common.{ℕ, ◌<◌, ◌≤◌}
use Rattle.coarse_grid.specs.Nearby.{AreAlike, item_in}
use Rattle.coarse_grid.proofs.class_tree.are_alike.Given as goal

abbrev pub invariant-loop-place : goal.invariant-loop-place
invariant-loop-place l = (p : ℕ) → l.start ≤ p → p < l.place
    → AreAlike (item_in l.items l.parts p) (item_in l.items l.parts l.start)
