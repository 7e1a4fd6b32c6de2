use Rattle.std.proofs.Common.{refl, arith}
use Rattle.net_model.proofs.Mapped.{netted_more}
use Rattle.design_nets.specs.Pieces.{stand_of}
use Rattle.design_nets.proofs.pieces.netted.Goals as goal

pub loop-a-preserved : goal.loop-a-preserved
loop-a-preserved c =
    let same = c.requires in
    let lt = c.loop-a-test.true in
    let inv = c.loop-a.invariant in
    let more = netted_more stand_of c.args.pieces.now c.args.nets.now c.loop-a.a _ c.loop-a.netted.items
    c.push.new.self.items _ lt (omega (arith, same, lt)) refl refl c.in_ok-push.ensures.items inv.places
    inv.nets in
    record { places = more.0; nets = more.1 }
