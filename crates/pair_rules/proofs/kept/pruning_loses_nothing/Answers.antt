use Rattle.pair_rules.proofs.Pruning.{pruning_loses_nothing}
use Rattle.pair_rules.proofs.kept.pruning_loses_nothing.Goals as goal

pub returns : goal.returns
returns c = pruning_loses_nothing c.args.axis c.args.tech.now c.args.coords.now c.args.items.now
