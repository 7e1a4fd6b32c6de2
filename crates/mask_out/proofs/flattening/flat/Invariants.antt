use Rattle.std.proofs.Common.{◌≡◌, All, map, take}
use Rattle.lam_geom.specs.Places.{IsPlacedBox}
use Rattle.mask_out.specs.{Masks.mask_of, Pictures.{drawing_of, flat_of}}
use Rattle.mask_out.proofs.flattening.flat.Given as goal

abbrev pub invariant-loop-call : goal.invariant-loop-call
invariant-loop-call l = record {
  placed : All (λ box. IsPlacedBox box.area) l.boxes.items;
  drawn : map mask_of l.boxes.items ≡ flat_of (map drawing_of l.picture.symbols) (take l.call-index l.picture.calls);
}
