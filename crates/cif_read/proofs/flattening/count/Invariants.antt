use Rattle.std.{proofs.Common.{◌≡◌, ◌≤◌, length, take}, specs.List.flat_map}
use Rattle.cif_read.specs.Files.{drawn_in_step, most_boxes}
use Rattle.cif_read.proofs.flattening.count.Given as goal

abbrev pub invariant-loop-step : goal.invariant-loop-step
invariant-loop-step l = record {
  total : l.total ≡ length (flat_map (drawn_in_step l.file) (take l.step-index l.file.order));
  few : l.total ≤ most_boxes;
}
