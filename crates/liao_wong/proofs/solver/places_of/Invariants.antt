use Rattle.std.proofs.Common.{◌≡◌, ℕ, ◌<◌, length, get_or}
use Rattle.liao_wong.proofs.solver.places_of.Given as goal

abbrev pub invariant-loop-i : goal.invariant-loop-i
invariant-loop-i l = record {
  one_each : length l.places.items ≡ length l.order;
  placed : (j : ℕ) → j < l.i → get_or l.places.items (get_or l.order j 0) 0 ≡ j;
}
