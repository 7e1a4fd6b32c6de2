use Rattle.std.proofs.Common.{◌≡◌, filter, take}
use Rattle.cif_foreign.specs.Counts.{has_boxes}
use Rattle.cif_foreign.proofs.flattening.filled_steps.Given as goal

abbrev pub invariant-loop-i : goal.invariant-loop-i
invariant-loop-i l = l.filled ≡ filter (has_boxes l.counts) (take l.i l.steps)
