use Rattle.std.{proofs.Common.{◌≡◌, map}, specs.List.range_with_len}
use Rattle.pass_run.specs.Layouts.{with_values_at}
use Rattle.pass_run.proofs.layouts.with_parts.Given as goal

abbrev pub invariant-loop-m : goal.invariant-loop-m
invariant-loop-m l = l.layouts.items ≡ map (with_values_at l.axis l.masters l.before l.x) (range_with_len 0 l.m)
