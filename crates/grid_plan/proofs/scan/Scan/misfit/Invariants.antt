use Rattle.std.proofs.Common.{◌≡◌, List, drop, vec_len}
use Rattle.cell_model.specs.declared.cell.CellPort.{CellPort}
use Rattle.grid_plan.specs.{Faults.{first_found, misfit_in_row}, Scan.IsScanOf}
use Rattle.grid_plan.proofs.scan.Scan.misfit.Given as goal

abbrev pub invariant-loop-r : goal.invariant-loop-r
invariant-loop-r l = record {
  len : vec_len l.self.beside.before ≡ vec_len l.initial.self.beside.before;
  found : (ports : List (List CellPort)) → IsScanOf ports l.initial.self
      → IsScanOf ports l.self
      × (first_found (misfit_in_row ports l.rows) 0 l.rows ≡ first_found (misfit_in_row ports l.rows) l.r
      (drop l.r l.rows));
}
