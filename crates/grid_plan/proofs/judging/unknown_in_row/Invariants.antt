use Rattle.std.proofs.Common.{◌≡◌, drop}
use Rattle.checked_cells.specs.Tables.{known_of}
use Rattle.grid_plan.specs.Faults.{first_found, unknown_cell}
use Rattle.grid_plan.proofs.judging.unknown_in_row.Given as goal

abbrev pub invariant-loop-col : goal.invariant-loop-col
invariant-loop-col l = first_found (unknown_cell (known_of l.cells) l.row) 0 l.names
    ≡ first_found (unknown_cell (known_of l.cells) l.row) l.col (drop l.col l.names)
