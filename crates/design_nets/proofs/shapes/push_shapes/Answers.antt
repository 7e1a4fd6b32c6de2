use Rattle.std.proofs.Common.{refl}
use Rattle.design_nets.{specs.Shapes.shape, proofs.Steps.mapped_after}
use Rattle.design_nets.proofs.shapes.push_shapes.Goals as goal

pub loop-item-preserved : goal.loop-item-preserved
loop-item-preserved c =
    mapped_after (shape c.args.instance) c.args.drawn.now c.loop-item.item-index 0 c.args.shapes.now.items
    c.loop-item.shapes.items c.push.new.self.items _ c.loop-item-test.true c.loop-item.invariant refl
    c.in_ok-push.ensures.items
