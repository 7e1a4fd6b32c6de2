use Rattle.std.proofs.Common.{◌≡◌, ℕ, ◌<◌}
use Rattle.pitch_join.specs.Masters.{master_at}
use Rattle.first_pass.specs.Bare.{bare_cell}
use Rattle.first_pass.proofs.compared.differ_in_limits.Given as goal

abbrev pub invariant-loop-m : goal.invariant-loop-m
invariant-loop-m l = (k : ℕ) → k < l.m → bare_cell (master_at l.masters k).cell ≡ bare_cell (master_at l.bared k).cell
