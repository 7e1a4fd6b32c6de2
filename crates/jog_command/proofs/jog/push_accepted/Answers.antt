use Rattle.std.proofs.{Common.{◌≡◌, w64, to_z, of_z}, lemmas.Int.to_z-of_z}
use Rattle.design_layouts.proofs.Scripted.{put_in_six}
use Rattle.jog_command.proofs.jog.push_accepted.Goals as goal

pub returns : goal.returns
returns c =
    let before : to_z w64 (of_z w64 c.args.before) ≡ c.args.before = to_z-of_z w64 c.args.before c.ranges.before in
    let after : to_z w64 (of_z w64 c.args.after) ≡ c.args.after = to_z-of_z w64 c.args.after c.ranges.after in
    put_in_six _ _ _ _ _ _ _ _ _ _ _ _ _ c.in_ok-push_head.ensures c.in_ok-extend_from_slice.ensures.items
    (rw before at c.in_ok-push_signed_decimal.ensures.ok) c.in_ok-extend_from_slice-2.ensures.items
    (rw after at c.in_ok-push_signed_decimal-2.ensures.ok) c.in_ok-push.ensures.items
