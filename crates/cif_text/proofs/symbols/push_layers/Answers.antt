use Rattle.std.proofs.Common.{map, arith}
use Rattle.mask_out.specs.Masks.{mask_of, mask_layers}
use Rattle.cif_text.{specs.Cif.layer_text, proofs.Chunks.{masks_of, chunk_added}}
use Rattle.cif_text.proofs.symbols.push_layers.Goals as goal

pub loop-layer-preserved : goal.loop-layer-preserved
loop-layer-preserved c =
    chunk_added (λ layer. layer_text layer (masks_of layer (map mask_of c.args.boxes.now))) mask_layers
    c.loop-layer.layer-index _ c.args.out.now.items c.loop-layer.out.items _ (omega arith) c.loop-layer.invariant
    c.in_ok-push_layer.ensures
