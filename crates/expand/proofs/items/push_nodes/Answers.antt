use Rattle.std.proofs.Common.{◌<◌, List, length, ap, arith}
use Rattle.cell_model.specs.declared.cell.{Node.Node, NodeNets.NodeNets}
use Rattle.expand.{specs.Items.items_of_node, proofs.{NetsRead.{node_nets_count, nets_read}, ItemsRead.node_pushed}}
use Rattle.list_facts.proofs.Pieces.{piece_added}
use Rattle.expand.proofs.items.push_nodes.Goals as goal

pub bounds-as_slice-k : goal.bounds-as_slice-k
bounds-as_slice-k c =
    let n = node_nets_count c.args.cell.now c.args.nets.now c.requires.nets in
    let e = ap (λ (ns : List NodeNets). length ns) c.as_slice-in-loop-k.ensures in
    let f = ap (λ (ns : List Node). length ns) c.as_slice.ensures in
    let light = c.requires.light in
    let test = c.loop-k-test.true in
    omega arith

pub loop-k-preserved : goal.loop-k-preserved
loop-k-preserved c =
    let a = c.args in
    let k = c.loop-k.k in
    let n = node_nets_count a.cell.now a.nets.now c.requires.nets in
    let e = ap (λ (ns : List NodeNets). length ns) c.as_slice-in-loop-k.ensures in
    let f = ap (λ (ns : List Node). length ns) c.as_slice.ensures in
    let light = c.requires.light in
    let test = c.loop-k-test.true in
    let lt : k < length c.as_slice-in-loop-k.result.now = omega arith in
    piece_added (items_of_node a.tech.now a.cell.now a.nets.now) k a.list.now.items c.loop-k.list.items
    c.push_kind.new.list.items c.loop-k.invariant
    (node_pushed a.tech.now a.cell.now a.nets.now k _ _ c.loop-k.list.items _ c.in_ok-push_kind.ensures
    c.kind_at.ensures (nets_read _ _ k _ c.as_slice-in-loop-k.ensures lt))
