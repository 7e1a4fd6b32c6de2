use Rattle.std.proofs.Common.{◌≡◌, List, drop, vec_len}
use Rattle.cell_model.specs.declared.cell.CellPort.{CellPort}
use Rattle.plan_model.specs.Rows.{row_at}
use Rattle.grid_plan.specs.{Faults.{first_found, misfit_here}, Scan.IsScanOf}
use Rattle.grid_plan.proofs.scan.Scan.in_row.Given as goal

abbrev pub invariant-loop-c : goal.invariant-loop-c
invariant-loop-c l = record {
  len : vec_len l.self.beside.before ≡ vec_len l.initial.self.beside.before;
  found : (ports : List (List CellPort)) → IsScanOf ports l.initial.self
      → IsScanOf ports l.self
      × (first_found (misfit_here ports l.rows l.r) 0 (row_at l.rows l.r)
      ≡ first_found (misfit_here ports l.rows l.r) l.c (drop l.c (row_at l.rows l.r)));
}
