use Rattle.std.proofs.{Common.{to_z, of_z, w64}, lemmas.Int.to_z-of_z}
use Rattle.expand.proofs.Channels.{AreChannelBoxes, channel_plain, channel_implanted, channel_boxes_passed}
use Rattle.expand.proofs.Channels.{implant_passed}
use Rattle.expand.proofs.nodes.push_transistor.Goals as goal

pub returns-then-not-depletion : goal.returns-then-not-depletion
returns-then-not-depletion c =
    let a = c.args in
    let x = to_z w64 (of_z w64 a.x) in
    let y = to_z w64 (of_z w64 a.y) in
    let boxes : AreChannelBoxes a.tech.now a.node a.nets x y c.gate_poly.result c.mask_diffusion.result
    c.low_piece.result c.high_piece.result c.channel.result =
    record {
      is_poly = c.gate_poly.ensures;
      is_mask = c.mask_diffusion.ensures;
      is_low = c.low_piece.ensures;
      is_high = c.high_piece.ensures;
      is_channel = c.channel.ensures;
    } in
    channel_plain a.tech.now a.node a.nets a.x a.y a.gate a.depletion _ _ _ _ _ a.list.now.items _
    c.if-not-depletion.true
    (channel_boxes_passed a.tech.now a.node a.nets x y a.x a.y _ _ _ _ _ (to_z-of_z w64 a.x c.ranges.x)
    (to_z-of_z w64 a.y c.ranges.y) boxes) c.in_ok-push_running.ensures

pub returns : goal.returns
returns c =
    let a = c.args in
    let x = to_z w64 (of_z w64 a.x) in
    let y = to_z w64 (of_z w64 a.y) in
    let boxes : AreChannelBoxes a.tech.now a.node a.nets x y c.gate_poly.result c.mask_diffusion.result
    c.low_piece.result c.high_piece.result c.channel.result =
    record {
      is_poly = c.gate_poly.ensures;
      is_mask = c.mask_diffusion.ensures;
      is_low = c.low_piece.ensures;
      is_high = c.high_piece.ensures;
      is_channel = c.channel.ensures;
    } in
    let ex = to_z-of_z w64 a.x c.ranges.x in
    let ey = to_z-of_z w64 a.y c.ranges.y in
    let h = channel_boxes_passed a.tech.now a.node a.nets x y a.x a.y _ _ _ _ _ ex ey boxes in
    let i = implant_passed a.tech.now a.node a.nets.main x y a.x a.y _ ex ey c.implant.ensures in
    channel_implanted a.tech.now a.node a.nets a.x a.y a.gate a.depletion _ _ _ _ _ _ a.list.now.items _ _
    c.if-not-depletion.false h i c.in_ok-push_running.ensures c.in_ok-push_running-2.ensures
