use Rattle.std.proofs.Common.{◌≡◌, ℕ, ◌^◌, ◌<◌, pos, neg_ℤ, ◌≤ℤ◌, length}
use Rattle.cons_graph.specs.Solutions.{value_of}
use Rattle.edit_session.proofs.solving.order_near.Given as goal

abbrev pub invariant-loop-v : goal.invariant-loop-v
invariant-loop-v l = record {
  count : length l.values.items ≡ l.v;
  first : value_of l.values.items 0 ≡ neg_ℤ (pos (2 ^ 63));
  least : (u : ℕ) → u < length l.values.items → neg_ℤ (pos (2 ^ 63)) ≤ℤ value_of l.values.items u;
}
