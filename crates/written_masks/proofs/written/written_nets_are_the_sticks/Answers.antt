-- The text of finished layouts means boxes that show the items; the law on extracted nets speaks of such boxes.
use Rattle.written_masks.proofs.Nets.{text_has_nets}
use Rattle.written_masks.proofs.written.written_nets_are_the_sticks.Goals as goal

pub returns : goal.returns
returns c =
    text_has_nets c.args.tech.now c.args.plan.now c.args.masters.now c.args.layouts.now
    (record { planned = c.requires.planned; finished = c.requires.finished; fit = c.requires.fit })
    c.texts_mean_their_pictures_to_others.ensures c.extracted_nets_are_the_sticks.ensures
