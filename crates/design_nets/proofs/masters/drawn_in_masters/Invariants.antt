use Rattle.std.proofs.Common.{◌≡◌, map, take}
use Rattle.design_nets.specs.Shapes.{drawn_in}
use Rattle.design_nets.proofs.masters.drawn_in_masters.Given as goal

abbrev pub invariant-loop-master : goal.invariant-loop-master
invariant-loop-master l = l.all.items ≡ map drawn_in (take l.master-index l.masters)
