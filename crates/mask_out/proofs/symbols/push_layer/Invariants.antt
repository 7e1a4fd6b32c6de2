use Rattle.std.proofs.Common.{◌≡◌, ◌++◌, All, map, take}
use Rattle.lam_geom.specs.Places.{IsPlacedBox}
use Rattle.mask_out.specs.Masks.{mask_of, masks_on}
use Rattle.mask_out.proofs.symbols.push_layer.Given as goal

abbrev pub invariant-loop-item : goal.invariant-loop-item
invariant-loop-item l = record {
  placed : All (λ box. IsPlacedBox box.area) l.boxes.items;
  drawn : map mask_of l.boxes.items ≡ map mask_of l.initial.boxes.items
      ++ masks_on l.coords (take l.item-index l.items) l.layer;
}
