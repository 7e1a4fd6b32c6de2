use Rattle.std.proofs.Common.{◌≡◌, length, All}
use Rattle.lam_geom.specs.{declared.boxes.MaskBox.MaskBox, Places.IsPlacedBox}
use Rattle.crossing_model.specs.Boxes.{IsSolid}
use Rattle.mask_tests.proofs.boxes_of_tests.boxes_of.Given as goal

abbrev pub invariant-loop-row : goal.invariant-loop-row
invariant-loop-row l =
    (length l.boxes.items ≡ l.row-index) × All (λ (b : MaskBox). IsPlacedBox b.area) l.boxes.items
    × All IsSolid l.boxes.items
