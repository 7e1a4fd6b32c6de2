use Rattle.std.proofs.Common.{◌≡◌, ◌++◌, map, take}
use Rattle.design_nets.specs.Shapes.{shape}
use Rattle.design_nets.proofs.shapes.push_shapes.Given as goal

abbrev pub invariant-loop-item : goal.invariant-loop-item
invariant-loop-item l = l.shapes.items ≡ l.initial.shapes.items ++ map (shape l.instance) (take l.item-index l.drawn)
