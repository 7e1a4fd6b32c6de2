use Rattle.std.proofs.Common.{◌<◌, List, length, ap, arith}
use Rattle.cell_model.specs.declared.cell.Wire.{Wire}
use Rattle.expand.{specs.Structure.overlap_edges, proofs.{CrossVariables.wire_read, Edges.overlap_pushed}}
use Rattle.list_facts.proofs.Pieces.{piece_added}
use Rattle.expand.proofs.inequalities.push_overlaps.Goals as goal

pub loop-k-preserved : goal.loop-k-preserved
loop-k-preserved c =
    let a = c.args in
    let k = c.loop-k.k in
    let e = ap (λ (ns : List Wire). length ns) c.as_slice-wires.ensures in
    let light = c.requires.light in
    let test = c.loop-k-test.true in
    let lt : k < length c.as_slice-wires.result.now = omega arith in
    piece_added (overlap_edges a.axis a.tech.now a.cell.now) k a.edges.now.items c.loop-k.edges.items
    c.push_wire_edges.new.edges.items c.loop-k.invariant
    (overlap_pushed a.axis a.tech.now a.cell.now k _ _ c.loop-k.edges.items _ c.in_ok-push_wire_edges.ensures
    (c.requires.crosses.each k (omega arith)) (wire_read _ _ k _ c.as_slice-wires.ensures lt))
