use Rattle.std.proofs.{Common.{[]}, lemmas.List.append-nil}
use Rattle.stick_print.{specs.Canonical.{canonical, cell_lines, grid_lines}, proofs.Growing.{one_more, every_one}}
use Rattle.stick_print.proofs.printing.canonical_text.Goals as goal

pub loop-cell-preserved : goal.loop-cell-preserved
loop-cell-preserved c =
    one_more cell_lines [] _ _ _ _ _ _ _ c.as_slice-cell-items.ensures c.loop-cell-test.true c.cell-item.is
    c.loop-cell.invariant c.in_ok-put_cell.ensures

pub loop-grid-init : goal.loop-grid-init
loop-grid-init c =
    rw append-nil
    (every_one cell_lines [] _ _ _ _ _ c.as_slice-cell-items.ensures c.loop-cell-test.false c.loop-cell.invariant)

pub loop-grid-preserved : goal.loop-grid-preserved
loop-grid-preserved c =
    one_more grid_lines _ _ _ _ _ _ _ _ c.as_slice-grid-items.ensures c.loop-grid-test.true c.grid-item.is
    c.loop-grid.invariant c.in_ok-put_grid.ensures

pub returns : goal.returns
unfolding canonical
returns c = every_one grid_lines _ _ _ _ _ _ c.as_slice-grid-items.ensures c.loop-grid-test.false c.loop-grid.invariant
