use Rattle.std.proofs.Common.{take, All, Contains}
use Rattle.first_pass.proofs.shown.are_limits.Given as goal

abbrev pub invariant-loop-k : goal.invariant-loop-k
invariant-loop-k l = All (Contains l.limits) (take l.k l.edges)
