-- The bars so far are those of the order so far.
use Rattle.std.proofs.Common.{◌≡◌, take, All}
use Rattle.bar_rows.specs.Rows.{IsPlacedBar}
use Rattle.shadow_prune.specs.Families.{bars_of}
use Rattle.shadow_prune.proofs.families.Family.bars.Given as goal

pub record BarsSoFar (l : goal.Live-loop-k) : Type 0 where
  pub bars : l.bars.items ≡ bars_of l.axis l.tech l.coords l.items l.self (take l.k-index l.order)
  pub placed : All IsPlacedBar l.bars.items

abbrev pub invariant-loop-k : goal.invariant-loop-k
invariant-loop-k l = BarsSoFar l
