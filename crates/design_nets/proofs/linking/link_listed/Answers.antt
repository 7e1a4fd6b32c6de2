use Rattle.design_nets.proofs.Linked.{listed_linked}
use Rattle.design_nets.proofs.linking.link_listed.Goals as goal

pub loop-m-preserved : goal.loop-m-preserved
loop-m-preserved c =
    listed_linked c.args.list.now c.args.first c.args.second c.loop-m.m-index _ c.args.links.now.items
    c.loop-m.links.items c.push.new.self.items c.loop-m-test.true c.loop-m.invariant c.in_ok-push.ensures.items
