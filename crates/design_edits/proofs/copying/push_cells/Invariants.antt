use Rattle.std.{proofs.Common.{◌≡◌, ◌+◌, ◌++◌, drop}, specs.Prelude.sum_by}
use Rattle.stick_print.specs.ReadBack.{cells_from, line_after_cells}
use Rattle.design_sizes.specs.Sizes.{lines_of_cell}
use Rattle.design_edits.proofs.copying.push_cells.Given as goal

abbrev pub invariant-loop-cell : goal.invariant-loop-cell
invariant-loop-cell l = record {
  number : l.number + sum_by lines_of_cell (drop l.cell-index l.cells) ≡ l.fn.first + sum_by lines_of_cell l.cells;
  after : line_after_cells l.number (drop l.cell-index l.cells) ≡ line_after_cells l.fn.first l.cells;
  copied : l.copies.items ++ cells_from l.number (drop l.cell-index l.cells) ≡ l.initial.copies.items
      ++ cells_from l.fn.first l.cells;
}
