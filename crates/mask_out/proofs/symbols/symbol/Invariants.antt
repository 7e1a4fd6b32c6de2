use Rattle.std.{proofs.Common.{◌≡◌, All, map, take}, specs.Prelude.flat_map}
use Rattle.lam_geom.specs.Places.{IsPlacedBox}
use Rattle.mask_out.specs.Masks.{mask_of, masks_on, mask_layers}
use Rattle.mask_out.proofs.symbols.symbol.Given as goal

abbrev pub invariant-loop-layer : goal.invariant-loop-layer
invariant-loop-layer l = record {
  placed : All (λ box. IsPlacedBox box.area) l.boxes.items;
  drawn : map mask_of l.boxes.items ≡ flat_map (masks_on l.coords l.master.items.list) (take l.layer-index mask_layers);
}
