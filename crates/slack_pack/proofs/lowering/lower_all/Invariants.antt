use Rattle.std.proofs.Common.{◌≡◌, ℕ, false, ◌<◌, ◌≤◌, length, get_or}
use Rattle.cons_graph.specs.Solutions.{value_of}
use Rattle.slack_pack.specs.Slacks.{IsLowered, IsQuietAt}
use Rattle.slack_pack.proofs.lowering.lower_all.Given as goal

abbrev pub invariant-loop-k : goal.invariant-loop-k
invariant-loop-k l = record {
  in_range : l.k ≤ length l.order;
  lowered : IsLowered l.g (value_of l.x) l.initial.slacks.items l.slacks.items l.fell;
  quiet : l.fell ≡ false → (j : ℕ) → l.k ≤ j → j < length l.order
      → IsQuietAt l.g.edges (value_of l.x) l.slacks.items (get_or l.order j 0);
}

abbrev pub decreases-loop-k : goal.decreases-loop-k
decreases-loop-k l = l.k
