use Rattle.std.proofs.Common.{◌≡◌, ◌++◌, All, map, take}
use Rattle.lam_geom.specs.Places.{IsPlacedBox}
use Rattle.mask_out.specs.{Masks.mask_of, Pictures.shifted}
use Rattle.mask_out.proofs.flattening.push_called.Given as goal

abbrev pub invariant-loop-mask : goal.invariant-loop-mask
invariant-loop-mask l = record {
  placed : All (λ box. IsPlacedBox box.area) l.boxes.items;
  drawn : map mask_of l.boxes.items ≡ map mask_of l.initial.boxes.items
      ++ map (shifted l.call) (map mask_of (take l.mask-index l.symbol));
}
