use Rattle.std.proofs.Common.{take, All}
use Rattle.sym_items.specs.Boxes.{HasBox}
use Rattle.layout_tests.proofs.kept_pairs_tests.boxed.have_boxes.Given as goal

abbrev pub invariant-loop-item : goal.invariant-loop-item
invariant-loop-item l = All (HasBox l.coords) (take l.item-index l.items)
