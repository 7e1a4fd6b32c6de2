-- The law is the lemma on the boxes of a transistor.
use Rattle.instance_laws.proofs.MeetingBoxes.{transistors_have}
use Rattle.instance_laws.proofs.meetings.transistors_have_boxes.Goals as goal

pub returns : goal.returns
returns c = transistors_have c.args.tech.now c.args.plan.now c.args.masters.now c.args.layouts.now c.requires
