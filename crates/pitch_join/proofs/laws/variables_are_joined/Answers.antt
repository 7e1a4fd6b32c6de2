use Rattle.pitch_join.proofs.Bases.{planned_joined}
use Rattle.pitch_join.proofs.laws.variables_are_joined.Goals as goal

pub returns : goal.returns
returns c = planned_joined c.args.tech.now c.args.plan.now c.args.masters.now c.requires
