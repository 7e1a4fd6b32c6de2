use Rattle.std.proofs.Common.{◌≡◌, ◌≤◌, length, take}
use Rattle.cif_read.specs.Narrow.{own_boxes, plain_order}
use Rattle.cif_read.proofs.plain.plain_order.Given as goal

abbrev pub invariant-loop-i : goal.invariant-loop-i
invariant-loop-i l = record {
  order : l.order.items ≡ plain_order 0 (take l.i l.steps);
  boxes : l.boxes ≡ length (own_boxes (take l.i l.steps));
  few : l.boxes ≤ l.i;
}
