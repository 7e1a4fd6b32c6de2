use Rattle.design_nets.proofs.Steps.{nets_more}
use Rattle.design_nets.proofs.masters.nets_of_masters.Goals as goal

pub loop-master-preserved : goal.loop-master-preserved
loop-master-preserved c =
    let item = c.master-item in
    let inv = c.loop-master.invariant in
    let more = nets_more c.args.masters.now c.loop-master.all.items c.push.new.self.items c.loop-master.master-index
    item.result _ c.loop-master-test.true item.is c.in_ok-nets.ensures c.in_ok-push.ensures.items inv.counted
    inv.each in
    record { counted = more.0; each = more.1 }
