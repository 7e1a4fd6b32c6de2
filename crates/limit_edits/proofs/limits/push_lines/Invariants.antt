use Rattle.std.proofs.Common.{◌≡◌, ◌++◌, drop}
use Rattle.limit_edits.proofs.limits.push_lines.Given as goal

abbrev pub invariant-loop-line : goal.invariant-loop-line
invariant-loop-line l = l.lines.items ++ drop l.line-index l.from ≡ l.initial.lines.items ++ l.from
