use Rattle.pass_run.proofs.Pruning.{pruning}
use Rattle.pass_run.proofs.laws.pruning_loses_nothing.Goals as goal

pub returns : goal.returns
returns c = pruning c.args.tech.now c.args.plan.now c.args.masters.now c.masters_are_lawful.ensures
