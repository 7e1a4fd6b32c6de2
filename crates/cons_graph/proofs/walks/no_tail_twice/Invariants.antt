use Rattle.std.proofs.Common.{◌≡◌, ℕ, ◌<◌, get_or}
use Rattle.cons_graph.specs.SimpleWalks.{tails_of}
use Rattle.cons_graph.proofs.walks.no_tail_twice.Given as goal

abbrev pub invariant-loop-i : goal.invariant-loop-i
invariant-loop-i l = (i j : ℕ) → i < j → j < l.i
    → get_or (tails_of l.edges l.walk) i 0 ≡ get_or (tails_of l.edges l.walk) j 0 → ⊥
