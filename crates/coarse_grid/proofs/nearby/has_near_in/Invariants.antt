use Rattle.std.proofs.Common.{◌≡◌, ℕ, ◌<◌, ◌≤◌, false}
use Rattle.coarse_grid.specs.Clash.{is_near_at}
use Rattle.box_tree.specs.UnvisitedTrees.{entry_in}
use Rattle.coarse_grid.proofs.nearby.has_near_in.Given as goal

abbrev pub invariant-loop-place : goal.invariant-loop-place
invariant-loop-place l = (p : ℕ) → l.start ≤ p → p < l.place
    → is_near_at l.tech l.coords l.items l.i (entry_in l.tree.parts p).owner ≡ false
