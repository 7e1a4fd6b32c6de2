-- The law is the lemma on each link.
use Rattle.instance_laws.proofs.MeetingLinks.{links_keep}
use Rattle.instance_laws.proofs.meetings.links_keep_nets.Goals as goal

pub returns : goal.returns
returns c = links_keep c.args.tech.now c.args.plan.now c.args.masters.now c.args.layouts.now
    (record { planned = c.requires.planned; finished = c.requires.finished })
