use Rattle.std.proofs.Common.{◌≡◌, ◌≤◌, ◌^◌, take}
use Rattle.graph_search.specs.Netting.{next_net}
use Rattle.design_nets.proofs.numbering.next_net.Given as goal

abbrev pub invariant-loop-net : goal.invariant-loop-net
invariant-loop-net l = record {
  value : l.next ≡ next_net (take l.net-index l.nets);
  few : l.next ≤ 2 ^ 31;
}
