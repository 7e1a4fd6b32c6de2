use Rattle.std.{proofs.Common.{◌≡◌, take}, specs.Prelude.flat_map}
use Rattle.mask_out.specs.Masks.{mask_layers}
use Rattle.instance_laws.specs.Shapes.{items_on}
use Rattle.design_nets.proofs.masters.drawn_items.Given as goal

abbrev pub invariant-loop-layer : goal.invariant-loop-layer
invariant-loop-layer l = l.drawn.items ≡ flat_map (items_on l.items) (take l.layer-index mask_layers)
