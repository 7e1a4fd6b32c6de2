use Rattle.pass_run.proofs.OneRefusal.{refused_in_one_way}
use Rattle.pass_run.proofs.laws.refusals_are_determined.Goals as goal

pub returns : goal.returns
returns c = λ axes. refused_in_one_way c.args.tech.now c.args.plan.now c.args.masters.now axes
