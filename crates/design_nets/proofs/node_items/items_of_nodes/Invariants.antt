use Rattle.design_nets.proofs.NodeItems.{AreFirstItems}
use Rattle.design_nets.proofs.node_items.items_of_nodes.Given as goal

abbrev pub invariant-loop-m : goal.invariant-loop-m
invariant-loop-m l = AreFirstItems l.masters l.m l.all.items
