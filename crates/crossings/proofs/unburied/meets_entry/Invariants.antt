use Rattle.std.proofs.Common.{ℕ, ◌<◌, ◌≤◌}
use Rattle.box_tree.specs.Tree.{entry_of}
use Rattle.crossings.specs.Pairs.{Meets}
use Rattle.crossings.proofs.unburied.meets_entry.Given as goal

abbrev pub invariant-loop-place : goal.invariant-loop-place
invariant-loop-place l = (p : ℕ) → l.group.start ≤ p → p < l.place
    → Meets l.tech l.boxes l.number (entry_of l.parts.entries.now p).owner → ⊥
