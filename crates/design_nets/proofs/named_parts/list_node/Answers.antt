use Rattle.std.proofs.Common.{arith}
use Rattle.design_nets.proofs.NamedParts.{node_long, node_within}
use Rattle.design_nets.proofs.named_parts.list_node.Goals as goal

pub bounds-as_slice-k : goal.bounds-as_slice-k
bounds-as_slice-k c = node_long c.args.s c.args.cell.now c.args.nets.now c.args.numbers.now c.requires.numbered
    c.args.k c.as_slice.result.now c.requires.node c.as_slice.ensures

pub offset_bounds-as_slice-k : goal.offset_bounds-as_slice-k
offset_bounds-as_slice-k c =
    (let lt = node_long c.args.s c.args.cell.now c.args.nets.now c.args.numbers.now c.requires.numbered c.args.k
    c.as_slice.result.now c.requires.node c.as_slice.ensures in omega (arith, lt))

pub number_in-main-requires-clause-net : goal.number_in-main-requires-clause-net
number_in-main-requires-clause-net c =
    (node_within c.args.s c.args.cell.now c.args.nets.now c.args.numbers.now c.requires.numbered c.args.k
    c.as_slice.result.now _ c.requires.node c.as_slice.ensures).0

pub number_in-requires-clause-net : goal.number_in-requires-clause-net
number_in-requires-clause-net c =
    (node_within c.args.s c.args.cell.now c.args.nets.now c.args.numbers.now c.requires.numbered c.args.k
    c.as_slice.result.now _ c.requires.node c.as_slice.ensures).1

pub number_in-requires-in-Fet-clause-net : goal.number_in-requires-in-Fet-clause-net
number_in-requires-in-Fet-clause-net c =
    (node_within c.args.s c.args.cell.now c.args.nets.now c.args.numbers.now c.requires.numbered c.args.k
    c.as_slice.result.now _ c.requires.node c.as_slice.ensures).2
