use Rattle.pass_run.proofs.Leading.{lead_to_one_place}
use Rattle.pass_run.proofs.laws.passes_lead_to_one_place.Goals as goal

pub returns : goal.returns
returns c = lead_to_one_place c.args.tech.now c.args.plan.now c.args.masters.now
