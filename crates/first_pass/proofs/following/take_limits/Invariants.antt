use Rattle.first_pass.specs.Following.{Stays}
use Rattle.first_pass.proofs.following.take_limits.Given as goal

abbrev pub invariant-loop-at : goal.invariant-loop-at
invariant-loop-at l = Stays l.listed l.initial.session l.session
