use Rattle.std.proofs.Common.{◌≡◌, map, take}
use Rattle.design_nets.specs.NamedLines.{layer_of_shape}
use Rattle.design_nets.proofs.naming.layers_shown.Given as goal

abbrev pub invariant-loop-shape : goal.invariant-loop-shape
invariant-loop-shape l = l.layers.items ≡ map (layer_of_shape l.masters l.instances) (take l.shape-index l.shapes)
