use Rattle.std.proofs.Common.{◌≡◌, drop}
use Rattle.checked_cells.specs.Tables.{known_of}
use Rattle.grid_plan.specs.{Numbered.ports_of_cells, Scan.IsScanOf, Faults.{first_found, numbered_fault}}
use Rattle.grid_plan.proofs.judging.check_grids.Given as goal

abbrev pub invariant-loop-grid : goal.invariant-loop-grid
invariant-loop-grid l = record {
  scan : IsScanOf (ports_of_cells (known_of l.cells)) l.scan;
  found : first_found (numbered_fault (known_of l.cells)) 0 l.grids
      ≡ first_found (numbered_fault (known_of l.cells)) l.grid (drop l.grid l.grids);
}
