use Rattle.std.proofs.Common.{get_or, refl, sym, ◌+◌, ◌∙◌}
use Rattle.net_model.proofs.NetOfPlace.{others_more, net_of_part, net_of_none}
use Rattle.net_model.proofs.devices.net_at.Goals as goal

pub loop-a-preserved : goal.loop-a-preserved
loop-a-preserved c = others_more c.args.pieces.now c.args.part (get_or c.args.starts.now c.args.box_no 0) c.loop-a.a
    (sym c.is_same_part.ensures ∙ c.if-is_same_part.false) c.loop-a.invariant

pub returns-then-is_same_part : goal.returns-then-is_same_part
returns-then-is_same_part c =
    net_of_part c.args.pieces.now c.args.starts.now c.args.box_no c.args.part
    (get_or c.args.starts.now c.args.box_no 0) (get_or c.args.starts.now (c.args.box_no + 1) 0) c.loop-a.a
    c.requires.starts c.requires.in_range
    refl refl c.loop-a.auto.a c.loop-a-test.true c.loop-a.invariant
    (sym c.is_same_part.ensures ∙ c.if-is_same_part.true)

pub returns : goal.returns
returns c =
    net_of_none c.args.pieces.now c.args.starts.now c.args.box_no c.args.part
    (get_or c.args.starts.now c.args.box_no 0) (get_or c.args.starts.now (c.args.box_no + 1) 0) c.loop-a.a
    c.requires.starts refl refl
    c.loop-a-test.false c.loop-a.invariant
