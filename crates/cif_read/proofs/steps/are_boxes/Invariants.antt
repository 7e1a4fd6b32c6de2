use Rattle.std.proofs.Common.{◌≡◌, ℕ, ◌<◌, get_or}
use Rattle.cif_read.specs.declared.steps.Place.TheVariants.{Own}
use Rattle.cif_read.proofs.steps.are_boxes.Given as goal

abbrev pub invariant-loop-i : goal.invariant-loop-i
invariant-loop-i l = (k : ℕ) → k < l.i → get_or l.places k (Own 0) ≡ Own k
