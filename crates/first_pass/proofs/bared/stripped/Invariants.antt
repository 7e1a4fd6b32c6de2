use Rattle.std.proofs.Common.{◌≡◌}
use Rattle.first_pass.specs.Bare.{bare_of}
use Rattle.first_pass.proofs.bared.stripped.Given as goal

abbrev pub invariant-loop-master : goal.invariant-loop-master
invariant-loop-master l = l.bared.items ≡ bare_of l.yielded
