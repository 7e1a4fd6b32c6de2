use Rattle.std.{proofs.Common.{◌≡◌, ◌+◌, ◌++◌, drop}, specs.Prelude.sum_by}
use Rattle.stick_print.specs.ReadBack.{grids_from}
use Rattle.design_sizes.specs.Sizes.{lines_of_grid}
use Rattle.design_edits.proofs.copying.copy_grids.Given as goal

abbrev pub invariant-loop-grid : goal.invariant-loop-grid
invariant-loop-grid l = record {
  number : l.number + sum_by lines_of_grid (drop l.grid-index l.grids) ≡ l.fn.first + sum_by lines_of_grid l.grids;
  copied : l.copies.items ++ grids_from l.number (drop l.grid-index l.grids) ≡ grids_from l.fn.first l.grids;
}
