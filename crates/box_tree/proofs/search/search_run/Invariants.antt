use Rattle.std.proofs.Common.{ℕ, ◌<◌, ◌≤◌}
use Rattle.box_tree.specs.{Queries.Holds, Tree.entry_of}
use Rattle.box_tree.proofs.search.search_run.Given as goal

abbrev pub invariant-loop-place : goal.invariant-loop-place
invariant-loop-place l = (p : ℕ) → l.start ≤ p → p < l.place → Holds l.query (entry_of l.entries p) → ⊥
