use Rattle.design_nets.specs.Linking.{AreAdded, IsMeetLink}
use Rattle.design_nets.proofs.linking.link_axis.Given as goal

abbrev pub invariant-loop-s : goal.invariant-loop-s
invariant-loop-s l = AreAdded (IsMeetLink l.axis l.plan l.nets l.instances l.firsts l.s) l.initial.links.items
    l.links.items
