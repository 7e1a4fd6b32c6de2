use Rattle.std.proofs.Common.{◌≡◌, ℕ, ◌<◌, length, pos, ◌+ℤ◌, get_or}
use Rattle.cons_graph.specs.Solutions.{value_of}
use Rattle.slack_pack.proofs.moving.moved.Given as goal

abbrev pub invariant-loop-v : goal.invariant-loop-v
invariant-loop-v l = record {
  so_many : length l.values.items ≡ l.v;
  moved_by : (u : ℕ) → u < l.v → value_of l.values.items u ≡ value_of l.x u +ℤ pos (get_or l.slacks u 0);
}
