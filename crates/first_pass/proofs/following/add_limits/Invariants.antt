use Rattle.first_pass.specs.Following.{Stays}
use Rattle.first_pass.proofs.following.add_limits.Given as goal

abbrev pub invariant-loop-edge : goal.invariant-loop-edge
invariant-loop-edge l = Stays l.listed l.initial.session l.session
