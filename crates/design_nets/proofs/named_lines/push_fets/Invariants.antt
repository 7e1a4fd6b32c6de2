use Rattle.std.proofs.Common.{◌≡◌, ◌++◌, drop}
use Rattle.design_nets.specs.{declared.named_parts.NamedPart.NamedPart, Connections.number_in, NamedNets.lines_of_fets}
use Rattle.design_nets.specs.NamedParts.{own_net_of}
use Rattle.design_nets.proofs.named_lines.push_fets.Given as goal

abbrev pub invariant-loop-number : goal.invariant-loop-number
invariant-loop-number l =
    l.out.items ++ lines_of_fets l.grids l.masters l.sticks.instances.items
    (λ (p : NamedPart). number_in l.sticks.numbers
    (own_net_of l.masters l.sticks.nets.items l.sticks.instances.items p)) l.number (drop l.number l.fets)
    ≡ l.initial.out.items ++ lines_of_fets l.grids l.masters l.sticks.instances.items
    (λ (p : NamedPart). number_in l.sticks.numbers
    (own_net_of l.masters l.sticks.nets.items l.sticks.instances.items p)) 0 l.fets
