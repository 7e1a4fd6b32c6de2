use Rattle.std.proofs.{Common.{ℕ, get_or, refl, ap, arith}, lemmas.List.get_or_default}
use Rattle.box_pieces.specs.{declared.placing.Placed.Placed, Places.place, Pieces.stand_of}
use Rattle.net_model.{specs.declared.netlist.Piece.Piece, proofs.Mapped.netted_more}
use Rattle.net_model.proofs.devices.netted.Goals as goal

pub loop-a-preserved : goal.loop-a-preserved
loop-a-preserved c =
    let same = c.requires in
    let lt = c.loop-a-test.true in
    let placed = c.args.placed.now in
    let nets = c.args.nets.now in
    let a = c.loop-a.a in
    let first = c.index-placed-a.result in
    let second = c.index-placed-a-in-loop-a.result in
    let box_no : ℕ = (get_or placed a first).box_no in
    let piece : Piece = record { box_no = box_no; part = (get_or placed a second).part; net = get_or nets a 0 } in
    netted_more stand_of placed nets a first c.loop-a.pieces.items c.push.new.self.items piece lt
    (omega (arith, same, lt)) (ap (λ (p : Placed). place box_no p.part) (get_or_default placed a second first lt))
    refl
    c.in_ok-push.ensures.items c.loop-a.invariant.0 c.loop-a.invariant.1
