use Rattle.std.proofs.Common.{◌≡◌, ◌+◌, length}
use Rattle.design_nets.specs.{Firsts.{together, AreFirsts}, Joining.nets_in}
use Rattle.design_nets.proofs.linking.first_nets.Given as goal

abbrev pub invariant-loop-instance : goal.invariant-loop-instance
invariant-loop-instance l = record {
  next : l.next ≡ l.first + length (together (nets_in l.nets l.instances) l.instance-index);
  firsts : AreFirsts (nets_in l.nets l.instances) l.instance-index l.first l.firsts.items;
}
