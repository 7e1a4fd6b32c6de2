use Rattle.mask_out.specs.Masks.{mask_layers}
use Rattle.instance_laws.specs.Shapes.{items_on}
use Rattle.design_nets.proofs.Steps.{flat_all, flat_more}
use Rattle.design_nets.proofs.masters.drawn_items.Goals as goal

pub loop-layer-preserved : goal.loop-layer-preserved
loop-layer-preserved c =
    flat_more (items_on c.args.items.now) mask_layers c.loop-layer.layer-index _ c.loop-layer.drawn.items
    c.push_layer.new.drawn.items c.loop-layer-test.true c.loop-layer.invariant c.in_ok-push_layer.ensures

pub returns : goal.returns
returns c = flat_all (items_on c.args.items.now) mask_layers c.loop-layer.layer-index c.loop-layer.drawn.items
    c.loop-layer-test.false c.loop-layer.invariant
