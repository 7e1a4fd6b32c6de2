use Rattle.std.proofs.Common.{◌≡◌, ℕ, ◌<◌, [], length}
use Rattle.design_nets.specs.Meetings.{row_of, meetings_at}
use Rattle.design_nets.proofs.meetings.empty_table.Given as goal

abbrev pub invariant-loop : goal.invariant-loop
invariant-loop l = record {
  rows : length l.table.items ≡ l.counter;
  columns : (a : ℕ) → a < l.counter → length (row_of l.table.items a) ≡ l.count;
  empty : (a b : ℕ) → meetings_at l.table.items a b ≡ [];
}
