use Rattle.std.{proofs.Common.{◌≡◌, ◌+◌, take}, specs.Prelude.{sum_by, slice_index}}
use Rattle.design_masters.specs.Limits.{capped_boxes}
use Rattle.design_masters.proofs.masters.with_row.Given as goal

abbrev pub invariant-loop-master : goal.invariant-loop-master
invariant-loop-master l =
    l.count ≡ capped_boxes (l.before + sum_by (slice_index l.boxes) (take l.master-index l.row.cells))
