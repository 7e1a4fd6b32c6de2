use Rattle.std.proofs.Common.{ℕ, ◌<◌, ◌≤ℤ◌}
use Rattle.cons_graph.specs.Solutions.{value_of}
use Rattle.jog_command.proofs.jog.is_no_wider.Given as goal

abbrev pub invariant-loop-m : goal.invariant-loop-m
invariant-loop-m l = (k : ℕ) → k < l.m → value_of l.after k ≤ℤ value_of l.widths k
