use Rattle.std.proofs.Common.{ℕ, ◌<◌}
use Rattle.coarse_grid.specs.Nearby.{IsNearOf}
use Rattle.coarse_grid.proofs.nearby.first_of.Given as goal

abbrev pub invariant-loop-i : goal.invariant-loop-i
invariant-loop-i l = (m k : ℕ) → m < l.i → IsNearOf l.tech l.coords l.items l.tree.class m k → ⊥
