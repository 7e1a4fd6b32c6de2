use Rattle.std.{proofs.Common.{◌≡◌, ◌++◌, take}, specs.List.zip}
use Rattle.grid_plan.proofs.pairs.push_zipped.Given as goal

abbrev pub invariant-loop-c : goal.invariant-loop-c
invariant-loop-c l = l.pairs.items ≡ l.initial.pairs.items ++ zip (take l.c l.low) (take l.c l.high)
