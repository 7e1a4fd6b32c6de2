-- The law is the lemma on implants.
use Rattle.instance_laws.proofs.MeetingBoxes.{implants_tell}
use Rattle.instance_laws.proofs.meetings.implants_tell_depletion.Goals as goal

pub returns : goal.returns
returns c = implants_tell c.args.tech.now c.args.plan.now c.args.masters.now c.args.layouts.now
    (record { planned = c.requires.planned; finished = c.requires.finished })
