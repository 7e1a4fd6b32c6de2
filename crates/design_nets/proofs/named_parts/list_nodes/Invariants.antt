use Rattle.std.proofs.Common.{map}
use Rattle.design_nets.specs.{Firsts.together, NamedParts.{parts_of_node, part_of, AreListed, number_by}}
use Rattle.design_nets.proofs.named_parts.list_nodes.Given as goal

abbrev pub invariant-loop-k : goal.invariant-loop-k
invariant-loop-k l = AreListed (number_by l.numbers l.s l.cell l.nets)
    (map (part_of l.s) (together (parts_of_node l.cell) l.k)) l.initial.lists.items l.lists.items
