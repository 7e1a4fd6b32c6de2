use Rattle.std.proofs.Common.{◌≡◌, ◌<◌, ℕ, false}
use Rattle.bar_rows.specs.Rows.{bar_at}
use Rattle.bar_sweep.proofs.sweep.has_main.Given as goal

abbrev pub invariant-loop-bar : goal.invariant-loop-bar
invariant-loop-bar l = (p : ℕ) → p < l.bar-index → (bar_at l.bars p).is_main ≡ false
