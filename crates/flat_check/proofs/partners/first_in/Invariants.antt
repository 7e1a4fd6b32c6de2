use Rattle.std.proofs.Common.{◌≡◌, ℕ, ◌<◌, ◌≤◌, []}
use Rattle.rule_breaks.specs.Breaks.{IsBreak}
use Rattle.flat_check.proofs.partners.first_in.Given as goal

abbrev pub invariant-loop-a : goal.invariant-loop-a
invariant-loop-a l = (l.found.items ≡ []) × ((a b : ℕ) → l.range.from ≤ a → a < l.a
    → IsBreak l.flat.tech.now l.flat.boxes.now l.rule a b → ⊥)
