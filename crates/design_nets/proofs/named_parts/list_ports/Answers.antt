use Rattle.std.proofs.Common.{ℕ, ap, ◌∙◌}
use Rattle.design_nets.specs.{Connections.number_in, Joining.own_net}
use Rattle.design_nets.proofs.NamedParts.{port_read, port_within, ports_more}
use Rattle.design_nets.proofs.named_parts.list_ports.Goals as goal

pub number_in-requires-clause-net : goal.number_in-requires-clause-net
number_in-requires-clause-net c =
    port_within c.args.s c.args.cell.now c.args.nets.now c.args.numbers.now c.requires c.loop-k.k
    c.as_slice-wires.result.now c.as_slice-ports.result.now _ _ c.loop-k-test.true c.as_slice-ports.ensures
    c.as_slice-wires.ensures

pub loop-k-preserved : goal.loop-k-preserved
loop-k-preserved c =
    let read =
    (port_read c.args.s c.args.cell.now c.args.nets.now c.args.numbers.now c.requires c.loop-k.k
    c.as_slice-wires.result.now c.as_slice-ports.result.now c.index-ports-k.result 0 c.loop-k-test.true
    c.as_slice-ports.ensures c.as_slice-wires.ensures).0 in
    ports_more c.args.s c.args.cell.now c.args.nets.now c.args.numbers.now c.requires c.loop-k.k c.number_in.result
    c.args.lists.now.items c.loop-k.lists.items c.list_part.new.lists.items
    (c.number_in.ensures ∙ ap (λ (net : ℕ). number_in c.args.numbers.now (own_net c.args.s net)) read)
    c.loop-k.invariant c.in_ok-list_part.ensures
