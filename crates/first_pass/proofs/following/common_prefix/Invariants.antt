use Rattle.std.proofs.Common.{◌≤◌, length}
use Rattle.first_pass.proofs.following.common_prefix.Given as goal

abbrev pub invariant-loop-k : goal.invariant-loop-k
invariant-loop-k l = l.k ≤ length l.b
