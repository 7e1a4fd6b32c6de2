use Rattle.std.proofs.Common.{take}
use Rattle.design_nets.specs.Linking.{AreAdded, IsListedLink}
use Rattle.design_nets.proofs.linking.link_listed.Given as goal

abbrev pub invariant-loop-m : goal.invariant-loop-m
invariant-loop-m l = AreAdded (IsListedLink (take l.m-index l.list) l.first l.second) l.initial.links.items
    l.links.items
