use Rattle.pair_rules.proofs.Chains.{leaves_chains}
use Rattle.pair_rules.proofs.kept.chains_stand_for_candidates.Goals as goal

pub returns : goal.returns
returns c = leaves_chains c.args.axis c.args.tech.now c.args.coords.now c.args.items.now
