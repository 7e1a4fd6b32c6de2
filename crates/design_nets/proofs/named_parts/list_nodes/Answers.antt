use Rattle.design_nets.{specs.NamedParts.{parts_of_node, number_by}, proofs.NamedParts.nodes_more}
use Rattle.design_nets.proofs.named_parts.list_nodes.Goals as goal

pub loop-k-preserved : goal.loop-k-preserved
loop-k-preserved c =
    nodes_more (number_by c.args.numbers.now c.args.s c.args.cell.now c.args.nets.now) c.args.s c.loop-k.k
    (parts_of_node c.args.cell.now) c.args.lists.now.items c.loop-k.lists.items c.list_node.new.lists.items
    c.loop-k.invariant c.in_ok-list_node.ensures
