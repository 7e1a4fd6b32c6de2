use Rattle.std.{proofs.Common.{◌≡◌, ◌+◌, ◌≤◌, List, take}, specs.List.flat_map}
use Rattle.cif_read.specs.{Hierarchies.Drawn, Files.most_boxes}
use Rattle.cif_foreign.{specs.Counts.{counted, AreCounts}, proofs.Flat.drawn_by}
use Rattle.cif_foreign.proofs.flattening.count_steps.Given as goal

abbrev pub invariant-loop-i : goal.invariant-loop-i
invariant-loop-i l = record {
  total : (boxes : List (List Drawn)) → AreCounts l.counts boxes
      → l.total ≡ counted (flat_map (drawn_by boxes) (take l.i l.steps));
  few : l.total ≤ most_boxes + 1;
}
