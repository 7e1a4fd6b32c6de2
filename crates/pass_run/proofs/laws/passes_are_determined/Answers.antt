use Rattle.pass_run.proofs.Determined.{passes_determined}
use Rattle.pass_run.proofs.laws.passes_are_determined.Goals as goal

pub returns : goal.returns
returns c = passes_determined c.args.tech.now c.args.plan.now c.args.masters.now c.args.before.now
