use Rattle.std.proofs.Common.{◌<◌, All, take}
use Rattle.bar_sweep.proofs.lasts.owners_of.Given as goal

abbrev pub invariant-loop-bar : goal.invariant-loop-bar
invariant-loop-bar l = All (λ b. b.owner < l.owners) (take l.bar-index l.bars)
