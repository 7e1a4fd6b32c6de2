use Rattle.std.{proofs.Common.{◌≡◌, ◌+◌, take}, specs.Prelude.{sum_by, slice_index}}
use Rattle.design_masters.specs.Limits.{capped_boxes}
use Rattle.design_masters.proofs.masters.with_grid.Given as goal

abbrev pub invariant-loop-row : goal.invariant-loop-row
invariant-loop-row l =
    l.count ≡ capped_boxes
    (l.before + sum_by (λ row. sum_by (slice_index l.boxes) row.cells) (take l.row-index l.grid.rows))
