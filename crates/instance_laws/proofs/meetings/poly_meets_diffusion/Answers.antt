-- The law is the lemmas on poly and diffusion, and on windows.
use Rattle.instance_laws.proofs.MeetingPoly.{poly_meets, contacts_are_buried, windows_keep_off}
use Rattle.instance_laws.proofs.meetings.poly_meets_diffusion.Goals as goal

pub returns-clause-meet : goal.returns-clause-meet
returns-clause-meet c = poly_meets c.args.tech.now c.args.plan.now c.args.masters.now c.args.layouts.now
    (record { planned = c.requires.planned; finished = c.requires.finished })

pub returns-clause-buried : goal.returns-clause-buried
returns-clause-buried c = contacts_are_buried c.args.tech.now c.args.plan.now c.args.masters.now c.args.layouts.now
    (record { planned = c.requires.planned; finished = c.requires.finished })

pub returns-clause-windows : goal.returns-clause-windows
returns-clause-windows c = windows_keep_off c.args.tech.now c.args.plan.now c.args.masters.now c.args.layouts.now
    (record { planned = c.requires.planned; finished = c.requires.finished })
