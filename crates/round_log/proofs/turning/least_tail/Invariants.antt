use Rattle.std.proofs.Common.{ℕ, ◌<◌, ◌≤◌, length, get_or, max}
use Rattle.cons_graph.specs.SimpleWalks.{tails_of}
use Rattle.round_log.proofs.turning.least_tail.Given as goal

abbrev pub invariant-loop-i : goal.invariant-loop-i
invariant-loop-i l = record {
  in_range : l.best < max 1 l.i;
  bound : l.i ≤ max 1 (length l.walk);
  low : (j : ℕ) → j < l.i → get_or (tails_of l.edges l.walk) l.best 0 ≤ get_or (tails_of l.edges l.walk) j 0;
  first : (j : ℕ) → j < l.best → get_or (tails_of l.edges l.walk) l.best 0 < get_or (tails_of l.edges l.walk) j 0;
}
