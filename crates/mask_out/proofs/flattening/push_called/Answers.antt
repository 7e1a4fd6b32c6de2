use Rattle.lam_geom.specs.{declared.boxes.MaskBox.MaskBox, Places.IsPlacedBox}
use Rattle.mask_out.proofs.{Drawn.one_more, Shifted.{box_within, box_pushed}}
use Rattle.mask_out.proofs.flattening.push_called.Goals as goal

pub shifted_box-requires-clause-within : goal.shifted_box-requires-clause-within
shifted_box-requires-clause-within c =
    box_within c.args.symbol.now c.loop-mask.mask-index c.mask-item.result c.requires.within c.loop-mask-test.true
    c.mask-item.is

pub loop-mask-preserved : goal.loop-mask-preserved
loop-mask-preserved c = record {
  placed = one_more (λ (box : MaskBox). IsPlacedBox box.area) c.loop-mask.boxes.items _ _ c.loop-mask.invariant.placed
      c.shifted_box.ensures.placed c.in_ok-push.ensures.items;
  drawn = box_pushed c.args.call c.args.symbol.now c.loop-mask.mask-index c.mask-item.result _ _
      c.loop-mask.boxes.items _ c.loop-mask-test.true c.mask-item.is c.shifted_box.ensures.mask
      c.loop-mask.invariant.drawn c.in_ok-push.ensures.items;
}
