use Rattle.std.proofs.Common.{◌≡◌, ◌*◌, ◌≤◌, take}
use Rattle.cell_model.specs.Nets.{node_parts}
use Rattle.cell_nets.specs.Attaching.{AreFirstParts}
use Rattle.cell_nets.proofs.attaching.first_parts.Given as goal

abbrev pub invariant-loop-node : goal.invariant-loop-node
invariant-loop-node l = record {
  sum : l.part ≡ node_parts (take l.node-index l.nodes);
  few : l.part ≤ l.node-index * 3;
  firsts : AreFirstParts (take l.node-index l.nodes) l.firsts.items;
}
