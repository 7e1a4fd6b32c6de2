use Rattle.std.{proofs.Common.{◌≡◌, flat_map}, specs.List.range_with_len}
use Rattle.first_pass.specs.Limits.{limits_at}
use Rattle.first_pass.proofs.limits.system_limits.Given as goal

abbrev pub invariant-loop-m : goal.invariant-loop-m
invariant-loop-m l = l.edges.items ≡ flat_map (limits_at l.axis l.masters) (range_with_len 0 l.m)
