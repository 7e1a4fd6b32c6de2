use Rattle.std.{proofs.Common.{◌≡◌, take}, specs.Prelude.{sum_by, slice_index}}
use Rattle.plan_model.specs.Rows.{rows_of}
use Rattle.design_masters.specs.Limits.{capped_boxes}
use Rattle.design_masters.proofs.masters.boxes_of_all.Given as goal

abbrev pub invariant-loop-grid : goal.invariant-loop-grid
invariant-loop-grid l =
    l.count ≡ capped_boxes
    (sum_by (λ grid. sum_by (sum_by (slice_index l.boxes)) (rows_of grid)) (take l.grid-index l.grids))
