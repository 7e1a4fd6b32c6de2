use Rattle.std.proofs.Common.{◌≡◌, ◌++◌, map, take}
use Rattle.mask_out.specs.Masks.{mask_of}
use Rattle.cif_text.{specs.Cif.layer_text, proofs.Chunks.{is_some, masks_of}}
use Rattle.cif_text.proofs.symbols.push_layer.Given as goal

abbrev pub invariant-loop-mask : goal.invariant-loop-mask
invariant-loop-mask l = record {
  text : l.out.items ≡ l.initial.out.items ++ layer_text l.layer
      (masks_of l.layer (map mask_of (take l.mask-index l.boxes)));
  named : l.is_named ≡ is_some (masks_of l.layer (map mask_of (take l.mask-index l.boxes)));
}
