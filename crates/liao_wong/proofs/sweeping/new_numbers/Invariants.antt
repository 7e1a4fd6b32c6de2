use Rattle.std.proofs.Common.{◌≡◌, ℕ, ◌<◌, length, get_or}
use Rattle.round_log.specs.Kept.{new_number}
use Rattle.liao_wong.specs.Sweeping.{keeps_of}
use Rattle.liao_wong.proofs.sweeping.new_numbers.Given as goal

abbrev pub invariant-loop-n : goal.invariant-loop-n
invariant-loop-n l = record {
  one_each : length l.numbers.items ≡ length l.keeps;
  are : (k : ℕ) → k < l.n → k < length l.keeps → get_or l.numbers.items k 0 ≡ new_number (keeps_of l.keeps) k;
}
