use Rattle.std.proofs.{Common.{List, ◌++◌, length, ap, ◌∙◌, arith}, lemmas.List.get_or_default}
use Rattle.cell_model.specs.{declared.cell.Wire.Wire, Sound.{wire_at, no_wire}}
use Rattle.list_facts.proofs.Pieces.{piece_added}
use Rattle.pitch_join.specs.Names.{cross_name_along, cross_name}
use Rattle.pitch_join.proofs.names.push_wires.Goals as goal

pub loop-k-preserved : goal.loop-k-preserved
loop-k-preserved c =
    let k = c.loop-k.k in
    let cell = c.args.cell.now in
    let e = ap (λ (ns : List Wire). length ns) c.as_slice-wires.ensures in
    let light = c.requires in
    let test = c.loop-k-test.true in
    piece_added (cross_name c.args.axis cell) k c.args.names.now c.loop-k.names c.push_wire.new.names c.loop-k.invariant
    (c.in_ok-push_wire.ensures ∙ ap (λ (w : Wire). c.loop-k.names ++ cross_name_along c.args.axis cell k w.along)
    (get_or_default c.as_slice-wires.result.now k _ no_wire (omega arith)
    ∙ ap (λ (ws : List Wire). wire_at ws k) c.as_slice-wires.ensures))
