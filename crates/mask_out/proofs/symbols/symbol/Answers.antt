use Rattle.std.{proofs.{Common.{arith, ◌∙◌, ap, map}, lemmas.List.take_all}, specs.Prelude.flat_map}
use Rattle.mask_out.specs.Masks.{mask_of, masks_on, masks_in, mask_layers}
use Rattle.mask_out.proofs.symbols.symbol.Goals as goal

pub returns-clause-boxes : goal.returns-clause-boxes
unfolding masks_in
returns-clause-boxes c =
    ap (map mask_of) c.from_vec.ensures ∙ c.loop-layer.invariant.drawn
    ∙ ap (flat_map (masks_on c.args.coords.now c.args.master.now.items.list))
    (take_all c.loop-layer.layer-index mask_layers (omega arith))
