use Rattle.std.proofs.Common.{arith}
use Rattle.cell_nets.proofs.Attachments.{nets_of_nodes_read}
use Rattle.cell_nets.proofs.netting.nets_of_nodes.Goals as goal

pub loop-node-preserved : goal.loop-node-preserved
loop-node-preserved c =
    let l = c.loop-node in
    let more = nets_of_nodes_read c.args.parts.now c.args.nodes.now l.node-index l.part c.node-item.result
    c.nets_of_kind.result l.nets.items c.push.new.self.items
    (omega arith) c.node-item.is l.invariant.sum c.nets_of_kind.ensures l.invariant.nets c.in_ok-push.ensures.items in
    record {
      sum = (let k = c.kind_parts.ensures.value in let s = more.0 in omega arith);
      nets = more.1;
    }
