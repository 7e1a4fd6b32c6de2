use Rattle.std.proofs.Common.{◌≡◌, map, take}
use Rattle.checked_cells.specs.Tables.{known_of}
use Rattle.grid_plan.specs.Numbered.{cell_named}
use Rattle.grid_plan.proofs.names.number_row.Given as goal

abbrev pub invariant-loop-col : goal.invariant-loop-col
invariant-loop-col l = l.numbers.items ≡ map (cell_named (known_of l.cells)) (take l.col l.names)
