-- The law is the lemmas on the items of each two classes; that a contact has one cut is the law on shapes.
use Rattle.instance_laws.proofs.Gaps.{IsDone}
use Rattle.masks_meet_rules.proofs.SpacingRules.{poly_keeps, nets_keep, cuts_keep, cuts_keep_off_channels}
use Rattle.masks_meet_rules.proofs.SpacingRules.{implants_keep, windows_keep}
use Rattle.masks_meet_rules.proofs.spacings.items_keep_off.Goals as goal

pub returns : goal.returns
returns c =
    let tech = c.args.tech.now in let plan = c.args.plan.now in let masters = c.args.masters.now in
    let layouts = c.args.layouts.now in
    let done : IsDone tech plan masters layouts =
    record { planned = c.requires.planned; finished = c.requires.finished } in
    record {
      poly = poly_keeps tech plan masters layouts done;
      nets = nets_keep tech plan masters layouts done;
      cuts = cuts_keep tech plan masters layouts done c.items_have_shapes.ensures.one_cut;
      channels = cuts_keep_off_channels tech plan masters layouts done;
      implants = implants_keep tech plan masters layouts done;
      windows = windows_keep tech plan masters layouts done;
    }
