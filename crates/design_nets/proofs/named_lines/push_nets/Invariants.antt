use Rattle.std.proofs.Common.{◌≡◌, ◌++◌}
use Rattle.design_nets.specs.{Firsts.together, NamedLines.line_of_parts, NamedNets.name_of}
use Rattle.design_nets.proofs.named_lines.push_nets.Given as goal

abbrev pub invariant-loop-net : goal.invariant-loop-net
invariant-loop-net l = l.out.items ≡ l.initial.out.items
    ++ together (line_of_parts (name_of l.grids l.masters l.instances) l.counts l.parts) l.net
