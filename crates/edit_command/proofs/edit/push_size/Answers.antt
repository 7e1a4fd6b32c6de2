use Rattle.std.proofs.{Common.{◌≡◌, w64, to_z, of_z}, lemmas.Int.to_z-of_z}
use Rattle.design_layouts.proofs.Scripted.{put_in_six}
use Rattle.edit_command.proofs.edit.push_size.Goals as goal

pub returns : goal.returns
returns c =
    let width : to_z w64 (of_z w64 c.args.width) ≡ c.args.width = to_z-of_z w64 c.args.width c.ranges.width in
    let height : to_z w64 (of_z w64 c.args.height) ≡ c.args.height = to_z-of_z w64 c.args.height c.ranges.height in
    put_in_six _ _ _ _ _ _ _ _ _ _ _ _ _ c.in_ok-push.ensures.items c.in_ok-extend_from_slice.ensures.items
    c.in_ok-push-2.ensures.items (rw width at c.in_ok-push_signed_decimal.ensures.ok) c.in_ok-push-3.ensures.items
    (rw height at c.in_ok-push_signed_decimal-2.ensures.ok)
