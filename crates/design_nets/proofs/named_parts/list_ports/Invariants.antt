use Rattle.std.{proofs.Common.map, specs.List.range_with_len}
use Rattle.design_nets.specs.declared.named_parts.CellPart.TheVariants.{Port}
use Rattle.design_nets.specs.NamedParts.{part_of, AreListed, number_by}
use Rattle.design_nets.proofs.named_parts.list_ports.Given as goal

abbrev pub invariant-loop-k : goal.invariant-loop-k
invariant-loop-k l = AreListed (number_by l.numbers l.s l.cell l.nets)
    (map (part_of l.s) (map Port (range_with_len 0 l.k))) l.initial.lists.items l.lists.items
