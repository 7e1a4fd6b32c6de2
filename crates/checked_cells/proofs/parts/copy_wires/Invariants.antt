use Rattle.std.proofs.Common.{◌≡◌, ◌++◌, map, take}
use Rattle.checked_cells.specs.CheckedCell.{copied_wire}
use Rattle.checked_cells.proofs.parts.copy_wires.Given as goal

-- the first wires have been copied
abbrev pub invariant-loop-wire : goal.invariant-loop-wire
invariant-loop-wire l = l.wires.items ≡ l.initial.wires.items ++ map (copied_wire l.first) (take l.wire-index l.copied)
