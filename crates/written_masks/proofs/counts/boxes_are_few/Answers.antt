-- The law is the lemmas on the picture and on what it shows.
use Rattle.written_masks.proofs.InstanceBoxes.{picture_counted, shown_counted}
use Rattle.written_masks.proofs.counts.boxes_are_few.Goals as goal

pub returns-clause-picture : goal.returns-clause-picture
returns-clause-picture c = picture_counted c.args.tech.now c.args.plan.now c.args.masters.now c.args.layouts.now
    c.requires.planned c.requires.counted

pub returns-clause-shown : goal.returns-clause-shown
returns-clause-shown c = shown_counted c.args.tech.now c.args.plan.now c.args.masters.now c.args.layouts.now
    c.requires.planned c.requires.counted
