use Rattle.std.proofs.Common.{◌≡◌, ℕ, ◌<◌, get_or}
use Rattle.cons_graph.specs.SimpleWalks.{tails_of}
use Rattle.cons_graph.proofs.walks.leaves.Given as goal

abbrev pub invariant-loop-k : goal.invariant-loop-k
invariant-loop-k l = (i : ℕ) → i < l.k-index → get_or (tails_of l.edges l.walk) i 0 ≡ l.v → ⊥
