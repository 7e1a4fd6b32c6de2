use Rattle.std.proofs.{Common.{◌∷◌, [], ◌++◌, arith}, lemmas.List.Elements.{All-push, All-same}}
use Rattle.lam_geom.specs.{declared.boxes.MaskBox.MaskBox, Places.IsPlacedBox}
use Rattle.crossing_model.specs.Boxes.{IsSolid}
use Rattle.mask_tests.proofs.boxes_of_tests.boxes_of.Goals as goal

pub loop-row-preserved : goal.loop-row-preserved
loop-row-preserved c =
    let old = c.loop-row.boxes.items in
    let added = c.mask_box.result in
    let items = c.in_ok-push.ensures.items in
    let placed = λ (b : MaskBox). IsPlacedBox b.area in
    let before = c.loop-row.invariant in (
      omega (arith, c.in_ok-push.ensures.len),
      All-same placed _ (old ++ added ∷ []) items (All-push placed old added before.1 c.mask_box.ensures.placed),
      All-same IsSolid _ (old ++ added ∷ []) items (All-push IsSolid old added before.2 c.mask_box.ensures.solid),
    )
