use Rattle.design_nets.proofs.NodeItems.{AreFound}
use Rattle.design_nets.proofs.node_items.of_owners.Given as goal

abbrev pub invariant-loop-j : goal.invariant-loop-j
invariant-loop-j l = AreFound l.items l.among l.class l.count l.j l.places.items
