use Rattle.std.proofs.Common.{◌≡◌, take}
use Rattle.design_nets.specs.NamedNets.{fets_of}
use Rattle.design_nets.proofs.fet_nodes.fets_of.Given as goal

abbrev pub invariant-loop-k : goal.invariant-loop-k
invariant-loop-k l = l.fets.items ≡ fets_of l.masters l.instances (take l.k l.shapes)
