use Rattle.std.proofs.Common.{◌≡◌, ◌*◌, ◌^◌, take, pos, neg_ℤ, ◌≤ℤ◌}
use Rattle.cons_graph.specs.SimpleWalks.{length_of}
use Rattle.cons_graph.proofs.walks.length_of_edges.Given as goal

abbrev pub invariant-loop-k : goal.invariant-loop-k
invariant-loop-k l = record {
  so_far : l.sum ≡ length_of l.edges (take l.k-index l.walk);
  low : neg_ℤ (pos (2 ^ 21 * l.k-index)) ≤ℤ l.sum;
  high : l.sum ≤ℤ pos (2 ^ 21 * l.k-index);
}
