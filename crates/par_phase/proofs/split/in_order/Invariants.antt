use Rattle.std.proofs.Common.{◌≡◌, length}
use Rattle.par_phase.specs.Taken.{ArePlaced}
use Rattle.par_phase.proofs.split.in_order.Given as goal

-- what stands in a place so far belongs there
abbrev pub invariant-loop-one : goal.invariant-loop-one
invariant-loop-one g l = (length l.places.items ≡ l.blocks) × ArePlaced g.F.Fn l.f l.items l.blocks l.places.items
