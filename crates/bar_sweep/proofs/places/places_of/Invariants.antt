use Rattle.std.{proofs.Common.◌≡◌, specs.List.range_with_len}
use Rattle.bar_sweep.proofs.places.places_of.Given as goal

abbrev pub invariant-loop-place : goal.invariant-loop-place
invariant-loop-place l = l.places.items ≡ range_with_len 0 l.place
