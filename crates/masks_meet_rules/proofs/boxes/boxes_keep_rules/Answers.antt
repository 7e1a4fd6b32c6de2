-- The law is the lemma on boxes that show the items, over what is extracted from them.
use Rattle.masks_meet_rules.proofs.BoxRules.{boxes_keep}
use Rattle.masks_meet_rules.proofs.boxes.boxes_keep_rules.Goals as goal

pub returns : goal.returns
returns c = λ boxes shown.
    boxes_keep c.args.tech.now c.args.plan.now c.args.masters.now c.args.layouts.now
    (record { planned = c.requires.planned; finished = c.requires.finished }) boxes shown
    (c.extracted_nets_are_the_sticks.ensures boxes shown)
