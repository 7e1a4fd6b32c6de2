use Rattle.pass_run.proofs.Determined.{one_most}
use Rattle.pass_run.proofs.laws.greatest_values_are_determined.Goals as goal

pub returns : goal.returns
returns c = one_most c.args.tech.now c.args.plan.now c.args.masters.now c.args.before.now
