use Rattle.std.proofs.Common.{◌≡◌, take}
use Rattle.cell_model.specs.Nets.{node_parts, nets_of_nodes}
use Rattle.cell_nets.proofs.netting.nets_of_nodes.Given as goal

abbrev pub invariant-loop-node : goal.invariant-loop-node
invariant-loop-node l = record {
  sum : l.part ≡ node_parts (take l.node-index l.nodes);
  nets : l.nets.items ≡ nets_of_nodes l.parts 0 (take l.node-index l.nodes);
}
