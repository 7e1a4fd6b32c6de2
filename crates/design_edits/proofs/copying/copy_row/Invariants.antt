use Rattle.std.proofs.Common.{◌≡◌, ◌++◌, drop}
use Rattle.design_edits.proofs.copying.copy_row.Given as goal

abbrev pub invariant-loop-name : goal.invariant-loop-name
invariant-loop-name l = l.names.items ++ drop l.name-index l.name-items ≡ l.name-items
