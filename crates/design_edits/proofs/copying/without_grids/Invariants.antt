use Rattle.std.{proofs.Common.{◌≡◌, ◌+◌, drop}, specs.Prelude.sum_by}
use Rattle.design_sizes.specs.Sizes.{lines_of_grid}
use Rattle.design_edits.proofs.copying.without_grids.Given as goal

abbrev pub invariant-loop-grid : goal.invariant-loop-grid
invariant-loop-grid l = l.left + sum_by lines_of_grid l.grids
    ≡ l.fn.most + sum_by lines_of_grid (drop l.grid-index l.grids)
