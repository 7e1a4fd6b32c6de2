use Rattle.design_nets.{specs.Instances.instance_in_row, proofs.Lists.image_added}
use Rattle.design_nets.proofs.instances.push_row.Goals as goal

pub loop-col-preserved : goal.loop-col-preserved
loop-col-preserved c =
    image_added (instance_in_row c.args.grid c.args.row c.args.cells.now) c.loop-col.col c.args.instances.now.items
    c.loop-col.instances.items _ c.loop-col.invariant c.in_ok-push.ensures.items
