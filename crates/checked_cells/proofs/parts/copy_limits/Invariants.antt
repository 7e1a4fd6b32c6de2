use Rattle.std.proofs.Common.{◌≡◌, ◌++◌, map, take}
use Rattle.checked_cells.specs.CheckedCell.{copied_limit}
use Rattle.checked_cells.proofs.parts.copy_limits.Given as goal

-- the first limits have been copied
abbrev pub invariant-loop-limit : goal.invariant-loop-limit
invariant-loop-limit l = l.limits.items ≡ l.initial.limits.items
    ++ map (copied_limit l.first) (take l.limit-index l.copied)
