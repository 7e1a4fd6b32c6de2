use Rattle.std.proofs.Common.{◌≡◌, ◌+◌, take}
use Rattle.limit_edits.specs.Edits.{limits_in}
use Rattle.limit_edits.proofs.limits.limit_line.Given as goal

abbrev pub invariant-loop-at : goal.invariant-loop-at
invariant-loop-at l = l.left + limits_in (take l.at l.lines) ≡ l.fn.k
