use Rattle.std.proofs.Common.{◌≡◌, take}
use Rattle.cif_read.specs.Narrow.{own_boxes}
use Rattle.cif_read.proofs.plain.own_boxes.Given as goal

abbrev pub invariant-loop-i : goal.invariant-loop-i
invariant-loop-i l = l.boxes.items ≡ own_boxes (take l.i l.steps)
