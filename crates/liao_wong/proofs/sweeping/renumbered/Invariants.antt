use Rattle.std.proofs.Common.{◌≡◌, ℕ, ◌<◌, length, get_or}
use Rattle.liao_wong.proofs.sweeping.renumbered.Given as goal

abbrev pub invariant-loop-number : goal.invariant-loop-number
invariant-loop-number l = record {
  one_each : length l.new.items ≡ l.number-index;
  are : (v : ℕ) → v < l.number-index → get_or l.new.items v 0 ≡ get_or l.numbers (get_or l.old v 0) 0;
}
