use Rattle.coarse_grid.proofs.FirstNear.{IsFirstUpTo}
use Rattle.coarse_grid.proofs.nearby.first_clash.Given as goal

abbrev pub invariant-loop-class : goal.invariant-loop-class
invariant-loop-class l = IsFirstUpTo l.tech l.coords l.items l.class-index l.first
