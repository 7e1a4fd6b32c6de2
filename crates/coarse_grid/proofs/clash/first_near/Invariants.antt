use Rattle.std.proofs.Common.{◌≡◌, ℕ, ◌<◌, false}
use Rattle.coarse_grid.specs.Clash.{is_near_at}
use Rattle.coarse_grid.proofs.clash.first_near.Given as goal

abbrev pub invariant-loop-j : goal.invariant-loop-j
invariant-loop-j l = (k : ℕ) → l.i < k → k < l.j → is_near_at l.tech l.coords l.items l.i k ≡ false
