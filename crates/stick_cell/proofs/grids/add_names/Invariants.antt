use Rattle.std.proofs.Common.{◌≡◌, drop}
use Rattle.checked_cells.specs.Grids.{grids_after}
use Rattle.stick_cell.specs.GridNames.{names_in}
use Rattle.stick_cell.proofs.grids.add_names.Given as goal

abbrev pub invariant-loop-grid : goal.invariant-loop-grid
invariant-loop-grid l = grids_after (names_in l.names) (drop l.grid-index l.grids)
    ≡ grids_after (names_in l.initial.names) l.grids
