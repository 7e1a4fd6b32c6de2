use Rattle.std.proofs.Common.{◌≡◌, drop}
use Rattle.grid_plan.specs.Faults.{first_found, ragged_row, columns_in}
use Rattle.grid_plan.proofs.judging.ragged.Given as goal

abbrev pub invariant-loop-row : goal.invariant-loop-row
invariant-loop-row l = first_found (ragged_row (columns_in l.rows)) 0 l.rows
    ≡ first_found (ragged_row (columns_in l.rows)) l.row (drop l.row l.rows)
