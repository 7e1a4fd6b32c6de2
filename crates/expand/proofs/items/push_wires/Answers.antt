use Rattle.std.proofs.Common.{ℕ, ◌<◌, List, length, get_or, ap, arith}
use Rattle.cell_model.specs.declared.cell.{Node.Node, Wire.Wire}
use Rattle.expand.{specs.Items.items_of_wire, proofs.{CrossVariables.wire_read, ItemsRead.wire_pushed}}
use Rattle.list_facts.proofs.Pieces.{piece_added}
use Rattle.expand.proofs.items.push_wires.Goals as goal

pub loop-k-preserved : goal.loop-k-preserved
loop-k-preserved c =
    let a = c.args in
    let k = c.loop-k.k in
    let e = ap (λ (ns : List Wire). length ns) c.as_slice-wires.ensures in
    let f = ap (λ (ns : List Node). length ns) c.as_slice.ensures in
    let light = c.requires.light in
    let test = c.loop-k-test.true in
    let lt : k < length c.as_slice-wires.result.now = omega arith in
    piece_added (items_of_wire a.tech.now a.cell.now a.nets.now) k a.list.now.items c.loop-k.list.items
    c.push_wire.new.list.items c.loop-k.invariant
    (wire_pushed a.tech.now a.cell.now a.nets.now k _ _ _ _ c.loop-k.list.items _ c.in_ok-push_wire.ensures
    (omega arith) (ap (λ (ns : List ℕ). get_or ns k 0) c.as_slice-in-loop-k.ensures)
    (c.requires.crosses.each k (omega arith)) (wire_read _ _ k _ c.as_slice-wires.ensures lt))
