use Rattle.std.proofs.Common.{◌≡◌, length, All, None}
use Rattle.par_phase.proofs.split.empty_places.Given as goal

abbrev pub invariant-loop : goal.invariant-loop
invariant-loop g l = (length l.places.items ≡ l.counter) × All (λ place. place ≡ None) l.places.items
