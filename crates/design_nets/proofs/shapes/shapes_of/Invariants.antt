use Rattle.std.proofs.Common.{◌≡◌}
use Rattle.design_nets.specs.{Firsts.{together, AreFirsts}, Shapes.shapes_in}
use Rattle.design_nets.proofs.shapes.shapes_of.Given as goal

abbrev pub invariant-loop-instance : goal.invariant-loop-instance
invariant-loop-instance l = record {
  all : l.all.items ≡ together (shapes_in l.masters l.instances) l.instance;
  firsts : AreFirsts (shapes_in l.masters l.instances) l.instance 0 l.firsts.items;
}
