use Rattle.std.proofs.Common.{◌≡◌, drop}
use Rattle.checked_cells.specs.Tables.{known_of}
use Rattle.grid_plan.specs.Faults.{first_found, unknown_in_row}
use Rattle.grid_plan.proofs.judging.unknown_in.Given as goal

abbrev pub invariant-loop-row : goal.invariant-loop-row
invariant-loop-row l = first_found (unknown_in_row (known_of l.cells)) 0 l.rows
    ≡ first_found (unknown_in_row (known_of l.cells)) l.row (drop l.row l.rows)
