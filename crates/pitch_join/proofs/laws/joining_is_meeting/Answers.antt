use Rattle.pitch_join.proofs.Solving.{joining_meets}
use Rattle.pitch_join.proofs.laws.joining_is_meeting.Goals as goal

pub returns : goal.returns
returns c = joining_meets c.args.tech.now c.args.plan.now c.args.masters.now
