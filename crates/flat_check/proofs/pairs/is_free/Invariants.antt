use Rattle.std.proofs.Common.{ℕ, ◌<◌, ◌≤◌}
use Rattle.box_tree.specs.Queries.{Holds}
use Rattle.flat_check.specs.Clear.{entry_in}
use Rattle.flat_check.proofs.pairs.is_free.Given as goal

abbrev pub invariant-loop-place : goal.invariant-loop-place
invariant-loop-place l = (p : ℕ) → l.group.start ≤ p → p < l.place → Holds l.query (entry_in l.parts p) → ⊥
