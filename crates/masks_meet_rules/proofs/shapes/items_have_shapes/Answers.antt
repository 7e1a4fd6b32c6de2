-- The law is the lemmas on widths and on cuts.
use Rattle.instance_laws.proofs.Gaps.{IsDone}
use Rattle.masks_meet_rules.proofs.ShapeWidths.{conductors_are_wide}
use Rattle.masks_meet_rules.proofs.ShapeCuts.{cuts_are_square, cuts_are_covered, owners_have_one_cut}
use Rattle.masks_meet_rules.proofs.shapes.items_have_shapes.Goals as goal

pub returns : goal.returns
returns c =
    let tech = c.args.tech.now in let plan = c.args.plan.now in let masters = c.args.masters.now in
    let layouts = c.args.layouts.now in
    let done : IsDone tech plan masters layouts =
    record { planned = c.requires.planned; finished = c.requires.finished } in
    record {
      wide = conductors_are_wide tech plan masters layouts done;
      square = cuts_are_square tech plan masters layouts done;
      covered = cuts_are_covered tech plan masters layouts done;
      one_cut = owners_have_one_cut tech plan masters layouts done;
    }
