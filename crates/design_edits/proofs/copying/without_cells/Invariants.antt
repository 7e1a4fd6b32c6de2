use Rattle.std.{proofs.Common.{◌≡◌, ◌+◌, drop}, specs.Prelude.sum_by}
use Rattle.design_sizes.specs.Sizes.{lines_of_cell}
use Rattle.design_edits.proofs.copying.without_cells.Given as goal

abbrev pub invariant-loop-cell : goal.invariant-loop-cell
invariant-loop-cell l = l.left + sum_by lines_of_cell l.cells
    ≡ l.fn.most + sum_by lines_of_cell (drop l.cell-index l.cells)
