use Rattle.std.proofs.Common.{◌≡◌, ℕ, [], length}
use Rattle.scan_line.specs.Levels.{list_at}
use Rattle.scan_line.proofs.level.empty_lists.Given as goal

abbrev pub invariant-loop : goal.invariant-loop
invariant-loop l = record {
  counted : length l.lists.items ≡ l.counter;
  empty : (t : ℕ) → list_at l.lists.items t ≡ [];
}
