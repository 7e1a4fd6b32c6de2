use Rattle.std.{proofs.Common.{◌≡◌, ◌++◌, map, take}, specs.List.flat_map}
use Rattle.design_nets.specs.NamedNets.{name_of, spaced}
use Rattle.design_nets.proofs.named_lines.push_names.Given as goal

abbrev pub invariant-loop-part : goal.invariant-loop-part
invariant-loop-part l = l.out.items ≡ l.initial.out.items
    ++ flat_map spaced (map (name_of l.grids l.masters l.instances) (take l.part-index l.parts))
