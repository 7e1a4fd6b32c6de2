use Rattle.std.{proofs.Common.{◌≡◌, ◌++◌, map, take}, specs.Prelude.flat_map}
use Rattle.mask_out.specs.Masks.{mask_of, mask_layers}
use Rattle.cif_text.{specs.Cif.layer_text, proofs.Chunks.masks_of}
use Rattle.cif_text.proofs.symbols.push_layers.Given as goal

abbrev pub invariant-loop-layer : goal.invariant-loop-layer
invariant-loop-layer l = l.out.items ≡ l.initial.out.items
    ++ flat_map (λ layer. layer_text layer (masks_of layer (map mask_of l.boxes))) (take l.layer-index mask_layers)
