use Rattle.checked_cells.specs.Grids.{resolved_cells}
use Rattle.stick_cell.proofs.{CellLoop.gives-residual, GridNames.{cells-fail, grids-fail, no-fault}}
use Rattle.stick_cell.proofs.resolving.resolve_with.Goals as goal

pub returns-in_err-cells-clause-cells : goal.returns-in_err-cells-clause-cells
returns-in_err-cells-clause-cells c =
    let tech = c.args.tech.now in
    let design = c.args.design.now in
    gives-residual c.from_residual.result c.in_err-cells.field-0.0 (resolved_cells tech design)
    c.from_residual.ensures.1 (cells-fail tech design c.in_err-cells.field-0.0 c.in_err-cells.ensures.cells)

pub returns-in_err-check_grids-clause-cells : goal.returns-in_err-check_grids-clause-cells
returns-in_err-check_grids-clause-cells c =
    let tech = c.args.tech.now in
    let design = c.args.design.now in
    gives-residual c.from_residual-in_err-check_grids.result c.in_err-check_grids.field-0.0
    (resolved_cells tech design) c.from_residual-in_err-check_grids.ensures.1
    (grids-fail tech design _ c.as_slice.result.now c.in_err-check_grids.field-0.0 c.in_ok-cells.ensures.cells
    c.as_slice.ensures c.in_err-check_grids.ensures)

pub returns-clause-cells : goal.returns-clause-cells
returns-clause-cells c = no-fault c.args.tech.now c.args.design.now _ c.as_slice.result.now
    c.in_ok-cells.ensures.cells c.as_slice.ensures c.in_ok-check_grids.ensures
